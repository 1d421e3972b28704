pub mod Posts
pub mod Laws
pub mod Chairs
pub mod Seats
pub mod Nowhere
