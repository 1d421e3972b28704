pub mod Orders
pub mod Called
pub mod Keeping
pub mod Room
pub mod Holding
