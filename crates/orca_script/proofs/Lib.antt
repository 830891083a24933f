pub mod Along
pub mod Digits
pub mod Format2Lines
pub mod Laws
pub mod Appending
pub mod Reach
pub mod ReadsBack
pub mod Refusals
pub mod RunLines
pub mod RunsReadBack
pub mod TextLines
pub mod Words
mod WorkedLines
