pub mod Lot
