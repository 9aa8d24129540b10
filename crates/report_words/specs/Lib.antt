pub mod Refused
pub mod Lines
pub mod Longest
