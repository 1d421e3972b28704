pub mod Exact
pub mod Spaces
pub mod WordsExact
pub mod Engine
pub mod Unique
pub mod Public
pub mod Watch
pub mod OnLiterals
