pub mod Faults
pub mod Given
pub mod Grows
pub mod Ranges
