pub mod Arrows
pub mod Written
