pub mod Firing
pub mod Reported
