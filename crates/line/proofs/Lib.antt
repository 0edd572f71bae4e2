pub mod Good
pub mod Laws
pub mod Lines
pub mod Places
pub mod Spelling
