pub mod Arrows
pub mod Tables
