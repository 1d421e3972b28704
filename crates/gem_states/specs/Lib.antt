pub mod Communication
pub mod Control
pub mod Triggers
