pub mod Table
pub mod SystemBytes
pub mod Endings
pub mod Sought
pub mod Kept
pub mod Earlier
