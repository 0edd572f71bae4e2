pub mod Local
pub mod Writing
pub mod Masks
pub mod Routes
