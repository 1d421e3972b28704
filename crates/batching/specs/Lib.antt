pub mod Batched
pub mod Making
pub mod Parts
pub mod Counted
pub mod Ending
