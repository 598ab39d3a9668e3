pub mod PortLists
pub mod NameLists
pub mod ItemLists
pub mod Whole
pub mod Gives
pub mod Plannable
