pub mod Words
pub mod Grammar
pub mod Lines
pub mod Reading
pub mod OutLines
pub mod Texts
