pub mod Short
pub mod Remotes
pub mod Dones
