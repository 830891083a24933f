pub mod ZeroBytes
mod WorkedMessages
