pub mod HexDigits
pub mod Literals
