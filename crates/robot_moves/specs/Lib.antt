pub mod Tables
pub mod Modules
pub mod Moves
pub mod Best
pub mod Worked
