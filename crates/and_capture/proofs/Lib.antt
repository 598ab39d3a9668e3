pub mod Loop
pub mod Numbers
pub mod Records
pub mod Files
