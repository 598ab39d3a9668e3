pub mod Scenarios
pub mod Plans
pub mod Standing
pub mod Planners
