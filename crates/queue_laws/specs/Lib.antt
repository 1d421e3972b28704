pub mod Started
pub mod Steers
