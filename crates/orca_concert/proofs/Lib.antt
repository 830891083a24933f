pub mod ChargeLemmas
pub mod SendLemmas
pub mod CommandLemmas
pub mod ConcertLemmas
pub mod DeafLemmas
pub mod EndingLemmas
