pub mod LimitLemmas
pub mod PrintLemmas
pub mod SoundLemmas
