pub mod Digits
pub mod Rows
pub mod Filling
pub mod Calm
pub mod Fates
pub mod Examples
