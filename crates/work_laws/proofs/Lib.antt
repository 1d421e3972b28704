pub mod Lists
pub mod Staying
pub mod Standing
pub mod Resting
pub mod Chambers
pub mod Working
