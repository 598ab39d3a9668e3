mod Short
mod Printed
mod Cutting
pub mod Cuts
mod Reading
mod ReadBack
mod Lines
mod Events
mod Fielded
mod Named
mod Ends
mod Texts
mod Spelled
pub mod Names
pub mod Runs
