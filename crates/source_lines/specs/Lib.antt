pub mod Limits
pub mod Reads
