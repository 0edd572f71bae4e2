pub mod Tests
pub mod Checks
pub mod Rank
pub mod Walking
pub mod Soundness
pub mod Drives
