pub mod SlateFacts
pub mod FirstFacts
pub mod HereFacts
pub mod LawFacts
pub mod LiveLemmas
pub mod StateFacts
pub mod VisitFacts
