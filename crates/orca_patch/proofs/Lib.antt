pub mod Counting
pub mod Cutting
pub mod Inverse
pub mod Undoing
