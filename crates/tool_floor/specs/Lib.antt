pub mod Kept
pub mod Located
pub mod Due
