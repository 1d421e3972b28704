pub mod Truth
pub mod Texts
pub mod Scans
pub mod Places
pub mod Apart
pub mod Rising
pub mod Entries
