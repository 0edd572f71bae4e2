pub mod Argument
pub mod Survey
pub mod Listed
