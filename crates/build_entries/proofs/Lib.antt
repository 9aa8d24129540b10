pub mod Index
pub mod Within
