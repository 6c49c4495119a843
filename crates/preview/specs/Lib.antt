pub mod Acts
pub mod Previews
pub mod Views
