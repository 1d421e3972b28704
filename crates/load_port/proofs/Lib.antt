pub mod Places
pub mod First
