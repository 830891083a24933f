pub mod BlankGrid
pub mod GridText
