pub mod Ladder
pub mod Laddered
pub mod Slots
pub mod Rungs
pub mod Lowest
