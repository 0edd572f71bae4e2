pub mod Rounds
pub mod Parts
pub mod Marks
pub mod Turns
pub mod Props
