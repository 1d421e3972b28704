pub mod Table
pub mod Machine
pub mod Names
