mod FillLemmas
mod FrameLemmas
mod HeadLemmas
mod HearingLemmas
mod MessageLemmas
mod SentLemmas
mod WorkedAnswers
mod WorkedFrames
