pub mod Shapes
pub mod Lent
