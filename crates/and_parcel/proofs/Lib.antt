pub mod Covered
pub mod Headers
pub mod Packets
