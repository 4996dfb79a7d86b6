pub mod ExitStatus
pub mod FailureTokens
pub mod Frames
pub mod NodeTokens
pub mod Parts
pub mod StatsTokens
pub mod Taking
