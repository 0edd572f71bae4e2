pub mod Folds
pub mod Entries
pub mod Opening
pub mod Rule1
pub mod Rule2
pub mod Shape
pub mod Counts
