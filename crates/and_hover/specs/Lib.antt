pub mod Holding
pub mod Hovers
pub mod Inside
pub mod Coprocs
pub mod Within
