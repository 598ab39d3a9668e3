pub mod Words
pub mod Spelling
pub mod Fields
pub mod Grammar
