pub mod Outcome
pub mod Known
