pub mod Growing
pub mod Drawing
pub mod Taken
pub mod Ranges
