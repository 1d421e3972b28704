pub mod Choosing
pub mod Falling
pub mod Rows
pub mod Machines
pub mod Starting
