pub mod Lasting
pub mod Growing
pub mod Caching
pub mod Once
