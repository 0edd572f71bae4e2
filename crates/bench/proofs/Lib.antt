pub mod Answers
pub mod Laws
pub mod Areas
pub mod Routes
