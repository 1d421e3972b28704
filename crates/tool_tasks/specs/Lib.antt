pub mod Chambers
pub mod Places
pub mod Recipes
pub mod Routes
