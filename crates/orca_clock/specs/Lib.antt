pub mod Clocked
pub mod Deaf
pub mod Followers
pub mod Laws
pub mod Leaders
