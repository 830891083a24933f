pub mod CopyLemmas
pub mod FirstLemmas
pub mod FitLemmas
pub mod FoldLemmas
pub mod FrameLemmas
mod GridRows
pub mod PriceLemmas
pub mod SheetLemmas
pub mod TouchLemmas
mod WorkedBlocks
mod WorkedPrices
mod WorkedSessions
pub mod RuleLemmas
pub mod RedoLemmas
