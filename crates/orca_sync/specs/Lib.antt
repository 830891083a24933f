pub mod Clocks
pub mod Laws
pub mod Leading
pub mod RealTime
pub mod Together
