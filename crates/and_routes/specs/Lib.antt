pub mod Heads
pub mod Buckets
pub mod Gates
