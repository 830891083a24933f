pub mod GridLaws
pub mod RunLaws
pub mod Each
