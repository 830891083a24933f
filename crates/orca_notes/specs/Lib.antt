pub mod Device
pub mod Ending
pub mod Sound
