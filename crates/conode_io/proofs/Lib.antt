pub mod Examples
pub mod StoppedLemmas
pub mod WriteLemmas
pub mod Taking
