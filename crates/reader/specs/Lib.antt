pub mod Filled
pub mod Left
pub mod Parsed
pub mod Split
