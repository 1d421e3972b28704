pub mod Faults
pub mod Refused
pub mod Texts
pub mod SlotMaps
pub mod Few
pub mod PortNumbers
pub mod Counted
pub mod Picking
