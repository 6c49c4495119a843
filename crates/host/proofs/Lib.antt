pub mod Lists
pub mod Queued
pub mod Shown
