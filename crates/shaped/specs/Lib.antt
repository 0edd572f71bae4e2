pub mod Shape
pub mod Lent
