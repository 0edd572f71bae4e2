pub mod Numbers
pub mod Judged
pub mod Table
pub mod Reader
pub mod Ranges
