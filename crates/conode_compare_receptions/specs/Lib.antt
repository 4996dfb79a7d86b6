pub mod OtherIds
pub mod Receptions
pub mod AllFrames
