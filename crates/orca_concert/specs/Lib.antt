pub mod Manners
pub mod Concerts
pub mod Stages
pub mod Telling
pub mod Silenced
