pub mod Offers
pub mod Counting
pub mod Kept
pub mod Frontier
pub mod Theorems
