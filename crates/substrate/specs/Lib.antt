pub mod Tables
pub mod Record
pub mod Locations
pub mod Places
pub mod Board
pub mod Tied
