pub mod Start
pub mod Lists
