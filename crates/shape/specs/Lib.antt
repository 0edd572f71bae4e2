pub mod Bench
pub mod Parts
pub mod Rules
