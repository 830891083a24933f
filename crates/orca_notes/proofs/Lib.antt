pub mod Voices
pub mod Chords
pub mod DeviceFacts
pub mod Turns
pub mod PlayFacts
pub mod Follows
pub mod MessageRanges
