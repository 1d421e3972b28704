pub mod Apart
pub mod Numbers
pub mod Telling
pub mod OneSession
pub mod Others
pub mod Each
pub mod Sessions
pub mod Whole
