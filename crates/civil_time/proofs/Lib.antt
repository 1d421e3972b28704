pub mod Calendar
pub mod EpochDays
pub mod CivilTests
pub mod MomentTexts
