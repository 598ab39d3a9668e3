pub mod Causes
pub mod Disk
pub mod Memory
pub mod Places
pub mod Stream
