pub mod DoneLemmas
pub mod FrameLemmas
pub mod SongLaw
pub mod WaveLaw
pub mod EndingLemmas
