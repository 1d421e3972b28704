pub mod Worked
pub mod Jobs
pub mod Lots
