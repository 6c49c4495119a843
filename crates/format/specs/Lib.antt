pub mod Numbers
pub mod Encoding
pub mod Rules
pub mod Reading
pub mod Refusals
pub mod Laws
