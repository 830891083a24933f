pub mod InMemoryLemmas
pub mod ScheduleLemmas
mod SpoiltLemmas
