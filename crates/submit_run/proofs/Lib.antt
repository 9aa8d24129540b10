pub mod ByKind
pub mod Running
