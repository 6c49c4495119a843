pub mod Allowed
pub mod Gathered
pub mod Hosted
pub mod Moved
pub mod Unchanged
