pub mod Limits
pub mod Values
pub mod Alarms
pub mod Reports
pub mod Within
pub mod Kept
pub mod Sound
