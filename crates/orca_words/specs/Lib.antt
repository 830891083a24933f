pub mod Forms
pub mod Requests
pub mod RequestIn
pub mod Recordings
pub mod PlainWords
