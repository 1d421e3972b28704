pub mod Apart
pub mod Items
pub mod Faults
