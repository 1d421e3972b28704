pub mod NothingHappened
