pub mod Links
pub mod Sessions
pub mod Hosting
pub mod HostSteps
