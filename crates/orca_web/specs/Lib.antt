pub mod Answers
pub mod Frames
pub mod Greetings
pub mod Heads
pub mod Hearing
pub mod Hosts
pub mod Wire
