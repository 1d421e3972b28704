pub mod Summing
pub mod Completions
pub mod Registrations
pub mod Replaying
