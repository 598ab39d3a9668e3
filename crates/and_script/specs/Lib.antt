pub mod Words
pub mod Forms
pub mod Tables
pub mod Grammar
pub mod Answers
pub mod Defaults
