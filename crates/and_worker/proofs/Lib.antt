pub mod Deciding
pub mod Turning
pub mod Growing
