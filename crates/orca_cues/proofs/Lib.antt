pub mod Checking
pub mod CuesLeft
pub mod Drawing
pub mod Either
pub mod LineCounts
pub mod Parting
pub mod Printed
pub mod PrintedLines
pub mod RoomLaw
pub mod Turning
pub mod Words
mod WorkedCues
mod WorkedRooms
