pub mod Digits
pub mod JamLemmas
pub mod LastEditor
pub mod LeaderLaws
pub mod OwnEdits
pub mod OwnerLaws
pub mod Seats
