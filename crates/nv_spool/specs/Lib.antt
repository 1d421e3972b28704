pub mod Inside
pub mod Nv
pub mod Writing
