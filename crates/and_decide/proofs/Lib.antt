pub mod Rules
pub mod Remembered
pub mod Leavings
