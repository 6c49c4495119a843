pub mod Puts
pub mod Stages
