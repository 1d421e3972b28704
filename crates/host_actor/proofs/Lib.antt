pub mod Counting
pub mod DoorLists
pub mod SessionLists
pub mod SessionEnding
pub mod Posted
pub mod Turns
pub mod Going
