pub mod Room
pub mod Judged
