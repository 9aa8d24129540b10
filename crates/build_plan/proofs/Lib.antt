pub mod Laws
pub mod Lengths
pub mod Asked
pub mod Judged
