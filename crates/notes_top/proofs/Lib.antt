pub mod Going
pub mod Keeping
pub mod Listed
pub mod Runs
