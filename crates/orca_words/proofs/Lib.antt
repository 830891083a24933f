pub mod Commands
pub mod Found
pub mod Parses
pub mod PlainForms
pub mod PlainWalk
pub mod PlainWords
pub mod RecordedWork
pub mod SimpleForms
mod WorkedWords
mod WorkedForms
mod WorkedLimits
