pub mod Feeding
pub mod Storing
