pub mod Picture
pub mod Ports
pub mod Standing
pub mod Sound
