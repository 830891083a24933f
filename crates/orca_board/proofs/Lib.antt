mod BoardLemmas
pub mod BlockEdits
pub mod BlockLemmas
pub mod BlockPlaces
pub mod SlateLemmas
pub mod ResidueLemmas
mod LawLemmas
mod RunLemmas
mod RowLemmas
mod ListingLemmas
mod LargestLemmas
mod LiveBitsLemmas
mod SizeLemmas
mod SpotLemmas
mod CutLemmas
mod RevertLemmas
mod SpanLemmas
