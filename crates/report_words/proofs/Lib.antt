pub mod Laws
pub mod Refusals
pub mod Longest
pub mod Refused
