pub mod Ending
pub mod Keeping
pub mod Ran
pub mod Stages
pub mod Stops
pub mod Words
