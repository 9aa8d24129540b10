pub mod Tables
pub mod Sections
pub mod Calls
