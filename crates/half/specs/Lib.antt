pub mod Fold
pub mod Half
