pub mod Sizes
pub mod Posts
pub mod Answering
pub mod Configs
pub mod Worked
