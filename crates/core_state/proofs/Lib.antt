pub mod NoteTexts
pub mod Telling
pub mod LineRows
pub mod Floors
pub mod ModuleRows
