pub mod Listed
pub mod Kinds
pub mod Steps
