pub mod Leaving
pub mod Letters
pub mod OperatorLetters
pub mod ScriptLines
pub mod SignalLetters
pub mod UpperCase
