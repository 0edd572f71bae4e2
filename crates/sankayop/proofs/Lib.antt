pub mod Packs
pub mod Reading
