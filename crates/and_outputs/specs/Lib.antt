pub mod Records
pub mod Delivered
pub mod Underlay
pub mod Moves
pub mod Sending
