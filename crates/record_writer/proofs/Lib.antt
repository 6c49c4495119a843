pub mod Lengths
pub mod Puts
