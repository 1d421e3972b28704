pub mod Owed
pub mod Undisturbed
