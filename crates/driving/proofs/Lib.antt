pub mod Fronts
pub mod Ended
pub mod Parts
pub mod Fetching
