pub mod Taken
pub mod ChamberSets
pub mod One
pub mod Steps
pub mod Usable
