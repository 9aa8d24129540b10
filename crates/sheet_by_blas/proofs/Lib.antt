pub mod Records
pub mod Counting
pub mod Placing
