pub mod Packages
pub mod Judging
