pub mod Filed
pub mod Taught
pub mod Parting
