pub mod Crews
pub mod Denials
pub mod Jamming
pub mod Laws
pub mod Owners
pub mod Seats
