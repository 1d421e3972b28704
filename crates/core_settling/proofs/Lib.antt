pub mod Sendings
pub mod LineRows
pub mod LeastRows
pub mod Firings
