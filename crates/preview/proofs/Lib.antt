pub mod Late
pub mod Listed
pub mod Told
