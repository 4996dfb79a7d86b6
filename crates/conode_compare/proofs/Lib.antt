pub mod AllFrames
mod BadLineExamples
pub mod Ends
mod FrameExamples
pub mod FrameLemmas
pub mod LineLoop
pub mod RecordLines
pub mod WriteLemmas
