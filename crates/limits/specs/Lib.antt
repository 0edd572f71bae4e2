pub mod Refusals
pub mod First
pub mod Limits
pub mod Said
