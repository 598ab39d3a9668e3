pub mod Seats
pub mod Tales
pub mod Turns
