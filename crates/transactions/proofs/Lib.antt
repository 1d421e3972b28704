pub mod Finding
pub mod Systems
pub mod Keeping
pub mod Drawing
pub mod Expiring
pub mod Laws
