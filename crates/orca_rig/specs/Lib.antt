pub mod Outside
pub mod Saved
pub mod Handed
pub mod Arrived
pub mod InMemory
pub mod Schedule
pub mod KeptPolls
