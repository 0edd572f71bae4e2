pub mod Five
pub mod Promises
pub mod Worthless
