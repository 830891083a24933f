pub mod ClockLaws
pub mod LeadLaws
mod WorkedClocks
mod WorkedLimits
