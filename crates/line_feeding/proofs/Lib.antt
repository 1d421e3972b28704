pub mod Going
pub mod Parts
pub mod Cutting
pub mod Counting
pub mod Reading
pub mod Noting
pub mod Configuration
