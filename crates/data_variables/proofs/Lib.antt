pub mod Rising
pub mod Codes
pub mod Said
pub mod Told
pub mod Sending
pub mod Keeping
