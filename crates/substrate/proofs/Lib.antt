pub mod Sites
pub mod Written
pub mod Standing
pub mod Tying
pub mod Faults
pub mod Numbering
pub mod Found
