pub mod Editing
pub mod Folding
pub mod Frames
pub mod Machines
pub mod Obeying
pub mod Pieces
pub mod Prices
pub mod Pricing
