pub mod Rules
pub mod HostActs
pub mod Groups
