pub mod Doings
pub mod Seating
pub mod Crews
pub mod Ran
