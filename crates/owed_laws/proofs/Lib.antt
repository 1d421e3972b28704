pub mod Totals
pub mod Agreeing
pub mod Beginning
pub mod Columns
pub mod Decreasing
pub mod Carrying
