pub mod Tables
pub mod Held
