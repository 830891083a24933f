pub mod Increments
pub mod Phases
pub mod Few
pub mod Bands
pub mod Mixes
pub mod Messages
pub mod Samples
pub mod Runs
mod WorkedWaves
