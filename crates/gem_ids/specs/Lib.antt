pub mod Moments
pub mod Texts
pub mod Held
pub mod Names
