pub mod Entries
pub mod History
pub mod Ring
pub mod Trails
