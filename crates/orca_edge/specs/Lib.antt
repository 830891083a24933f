pub mod Taken
pub mod Heard
pub mod Waits
pub mod Names
pub mod Owed
pub mod Http
