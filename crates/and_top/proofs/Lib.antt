pub mod Bounds
pub mod Completing
pub mod Failing
pub mod PlansLemmas
pub mod Puts
pub mod Refusing
pub mod Storing
pub mod Headlines
