pub mod Lists
pub mod Rows
pub mod Owners
pub mod Starting
pub mod Steering
