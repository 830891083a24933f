pub mod Board
pub mod Blocks
pub mod Laws
pub mod Listing
pub mod LiveBits
pub mod PlainBoard
pub mod Sizes
