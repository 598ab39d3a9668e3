pub mod Mapped
pub mod Walks
pub mod Frees
pub mod Items
pub mod Planned
pub mod Applying
pub mod Planning
pub mod Promises
