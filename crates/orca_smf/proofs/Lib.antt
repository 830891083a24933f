pub mod Deltas
pub mod Messages
pub mod Tunes
pub mod Growing
mod WorkedSongs
