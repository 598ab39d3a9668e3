mod Ordering
mod Changes
pub mod Ported
mod Firsts
pub mod Ripening
