mod Pairing
pub mod Sums
