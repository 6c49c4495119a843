pub mod Laned
