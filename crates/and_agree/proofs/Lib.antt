pub mod Readable
pub mod Agreeing
pub mod After
pub mod Places
