pub mod Recorded
pub mod Moved
pub mod Completes
pub mod Calm
pub mod Fires
pub mod Found
