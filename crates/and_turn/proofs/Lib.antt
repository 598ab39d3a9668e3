pub mod Closing
pub mod Joining
pub mod Keeping
pub mod Knowing
pub mod Places
pub mod Queue
pub mod Splitting
pub mod Tales
