mod BillLemmas
pub mod FreeEdits
mod JumpLemmas
pub mod ObeyLemmas
mod PastLemmas
mod PayLemmas
mod PriceLemmas
mod PushLemmas
mod RedoLemmas
mod RedoPrices
mod RetractLemmas
mod RetractPrices
mod SessionLemmas
