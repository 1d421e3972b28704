pub mod JobRows
pub mod Operating
pub mod Timeouts
