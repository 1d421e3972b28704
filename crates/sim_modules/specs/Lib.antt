pub mod Acting
pub mod Drawing
pub mod Lot
pub mod Worked
