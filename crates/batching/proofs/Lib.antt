pub mod Making
pub mod Keeping
pub mod Busy
pub mod Answering
pub mod Choosing
pub mod Carrying
pub mod Counting
pub mod Ending
