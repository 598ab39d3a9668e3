pub mod Behind
pub mod First
pub mod Takes
