pub mod Computed
pub mod Held
pub mod Sources
