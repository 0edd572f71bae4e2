pub mod Sound
pub mod Trail
