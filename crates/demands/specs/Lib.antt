pub mod Mixture
pub mod Calls
pub mod Demands
pub mod Trails
pub mod Afterward
