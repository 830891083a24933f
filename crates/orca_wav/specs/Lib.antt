pub mod Header
pub mod Rendering
pub mod Tones
pub mod Waves
