pub mod Errors
pub mod Attributes
pub mod Requests
pub mod Acts
