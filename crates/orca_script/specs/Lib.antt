pub mod Canonical
pub mod Format2
pub mod Grammar
pub mod LineValues
pub mod Readers
pub mod Reading
pub mod Runs
