pub mod Scans
pub mod Named
pub mod Lists
pub mod Parts
pub mod Refused
pub mod Repeats
