pub mod Count
pub mod Found
