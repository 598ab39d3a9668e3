pub mod Splitting
pub mod Lengths
pub mod Bucketing
pub mod Cases
