pub mod Floor
pub mod Rows
pub mod Machines
pub mod Left
pub mod Valid
pub mod Requests
pub mod Kept
pub mod Owning
