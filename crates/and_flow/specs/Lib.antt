pub mod Groups
pub mod Newest
