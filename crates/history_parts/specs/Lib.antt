pub mod Additions
pub mod Counts
pub mod CoreInside
pub mod CoreView
pub mod Totals
