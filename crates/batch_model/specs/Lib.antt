pub mod Host
pub mod Modules
pub mod Batch
pub mod Summary
pub mod Told
