pub mod Lanes
pub mod Lawful
pub mod Added
