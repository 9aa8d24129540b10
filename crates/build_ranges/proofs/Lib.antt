pub mod Appending
pub mod Ranges
