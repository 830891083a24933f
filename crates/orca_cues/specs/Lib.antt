pub mod Cues
pub mod Made
pub mod Readable
pub mod Rooms
pub mod Scripts
pub mod TurnsLeft
