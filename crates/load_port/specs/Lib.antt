pub mod Tables
pub mod Record
pub mod Caack
pub mod Ports
