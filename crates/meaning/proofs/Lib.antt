mod Acting
mod Advancing
mod Conserving
mod Counting
mod Following
mod Hiding
mod Turning
pub mod Dividing
pub mod Fitting
pub mod Hearing
pub mod Kept
pub mod Limiting
pub mod Listed
pub mod Lists
pub mod Outcomes
pub mod Resulting
pub mod Sighting
pub mod Soundness
pub mod Stepping
pub mod Tabling
