pub mod ClockLemmas
pub mod GoingLemmas
pub mod HeardLemmas
pub mod LedLemmas
pub mod MidiLemmas
pub mod PartLemmas
pub mod TellingLemmas
pub mod TogetherLaws
