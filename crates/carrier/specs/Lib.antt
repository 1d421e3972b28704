pub mod Tables
pub mod Record
pub mod Carriers
pub mod Wants
pub mod Verdict
pub mod Kept
pub mod Creating
pub mod Changes
