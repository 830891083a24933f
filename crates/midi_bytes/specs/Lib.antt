pub mod VoiceMessage
