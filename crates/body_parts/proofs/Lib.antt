pub mod Bounds
pub mod Parts
pub mod Texts
