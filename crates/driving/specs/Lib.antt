pub mod Handling
pub mod Limits
pub mod Driving
