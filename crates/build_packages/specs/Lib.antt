pub mod Within
