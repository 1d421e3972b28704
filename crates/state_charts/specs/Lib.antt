pub mod Names
pub mod TableThree
pub mod Shown
