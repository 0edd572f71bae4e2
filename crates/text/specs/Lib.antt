pub mod Text
pub mod Good
pub mod Refused
pub mod Held
