pub mod Joined
pub mod First
pub mod Numbers
pub mod Ending
pub mod Best
pub mod Least
pub mod Giving
pub mod Finding
