pub mod Rows
pub mod Mapped
pub mod AnyOrder
pub mod Shown
