pub mod Views
pub mod Reading
pub mod Standing
pub mod InputEnds
pub mod Printing
