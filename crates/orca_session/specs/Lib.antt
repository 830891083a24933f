pub mod Past
pub mod Session
pub mod Views
