pub mod Compartments
pub mod Marked
pub mod Covers
pub mod Marks
