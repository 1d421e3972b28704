pub mod Work
pub mod Equipped
