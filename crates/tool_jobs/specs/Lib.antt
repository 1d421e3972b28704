pub mod Jobs
pub mod Wants
pub mod Rows
pub mod Creating
pub mod Left
pub mod Together
