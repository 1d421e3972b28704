pub mod Found
pub mod Names
pub mod Numbers
pub mod Stock
pub mod Keys
pub mod Kept
