pub mod Many
pub mod Tables
pub mod Whole
pub mod Cuts
