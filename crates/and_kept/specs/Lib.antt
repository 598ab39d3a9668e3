pub mod Lanes
pub mod Numbers
pub mod Nodes
pub mod Busy
pub mod Outers
pub mod Settling
pub mod Moves
