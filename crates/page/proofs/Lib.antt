pub mod Finds
pub mod Rowed
