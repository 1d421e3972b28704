pub mod Forms
pub mod Neighbours
