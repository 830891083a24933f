pub mod Counting
pub mod Filling
pub mod Lines
pub mod Places
pub mod Printing
pub mod Reading
