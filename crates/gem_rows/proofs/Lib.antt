pub mod Numbers
pub mod Printable
pub mod EventRows
pub mod NamedLines
pub mod StatusRows
