pub mod Keeping
pub mod LastEdit
pub mod Moves
pub mod Room
pub mod Worn
