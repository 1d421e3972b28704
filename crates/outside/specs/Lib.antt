pub mod Counts
pub mod Disk
pub mod Doors
pub mod Memory
pub mod Readings
pub mod Told
