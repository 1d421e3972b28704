pub mod Links
pub mod LinkTable
pub mod Deadlines
