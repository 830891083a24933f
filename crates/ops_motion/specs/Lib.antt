pub mod Ways
pub mod MotionLaws
pub mod Reaches
