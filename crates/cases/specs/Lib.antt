pub mod First
pub mod Hash
