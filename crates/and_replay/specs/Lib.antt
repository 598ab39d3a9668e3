pub mod Rows
pub mod Parting
pub mod Turns
