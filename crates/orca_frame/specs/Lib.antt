pub mod Covering
pub mod Frames
pub mod Skips
pub mod Written
