pub mod Lesson
pub mod Table
pub mod Told
