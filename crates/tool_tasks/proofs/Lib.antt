pub mod Putting
pub mod Sets
