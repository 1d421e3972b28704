pub mod Functions
pub mod Listed
pub mod Reading
pub mod Asked
