pub mod Lists
pub mod Vms
pub mod Script
pub mod Frames
