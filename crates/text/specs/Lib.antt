pub mod Answers
pub mod Arguments
pub mod Hex
pub mod HexLaws
pub mod Lines
pub mod Numbers
pub mod Words
