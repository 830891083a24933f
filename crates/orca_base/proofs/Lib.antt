pub mod BlockFacts
pub mod GlyphFacts
pub mod GlyphLemmas
pub mod InlineLemmas
pub mod ListFacts
pub mod MarkLemmas
pub mod NumberLemmas
pub mod PlaceFacts
pub mod RangeFacts
pub mod SheetFacts
pub mod WornFacts
mod WorkedLimits
