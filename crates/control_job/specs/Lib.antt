pub mod Tables
pub mod Record
pub mod Names
pub mod Jobs
pub mod Creating
pub mod Commands
pub mod Kept
