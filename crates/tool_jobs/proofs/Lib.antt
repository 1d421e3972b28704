pub mod Counting
pub mod Rows
pub mod Names
pub mod Process
pub mod Control
pub mod Together
pub mod Ending
pub mod Falls
