pub mod Map
pub mod Walk
