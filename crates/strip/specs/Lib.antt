pub mod Entries
pub mod Laws
pub mod Sizes
pub mod Stripped
