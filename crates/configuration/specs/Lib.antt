pub mod Values
pub mod Routes
pub mod Recipes
pub mod Rules
pub mod Reading
pub mod Worked
