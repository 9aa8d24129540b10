pub mod Judged
pub mod Start
pub mod Steps
