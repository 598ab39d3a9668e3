pub mod Reading
pub mod Parcels
pub mod Sealing
