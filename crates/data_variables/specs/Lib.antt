pub mod Table
pub mod Values
pub mod Setting
pub mod Bodies
