pub mod Tables
pub mod Record
pub mod Jobs
pub mod Creating
pub mod Commands
pub mod Listing
pub mod Kept
