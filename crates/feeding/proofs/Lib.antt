pub mod LineParts
pub mod AtText
pub mod Stopping
pub mod Standing
pub mod Progress
pub mod Ending
pub mod NothingHappened
pub mod Driven
