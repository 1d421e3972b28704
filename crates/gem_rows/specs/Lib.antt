pub mod Events
pub mod Lines
pub mod Variables
pub mod Alarms
pub mod Rising
