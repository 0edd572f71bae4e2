pub mod Turns
pub mod Area
pub mod Listed
