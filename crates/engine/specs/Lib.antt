pub mod Courses
pub mod Serves
pub mod Views
