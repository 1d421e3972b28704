pub mod Located
pub mod Due
pub mod Emptied
