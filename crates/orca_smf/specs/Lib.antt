pub mod Songs
pub mod Front
pub mod Spelling
pub mod Recording
pub mod Tracks
