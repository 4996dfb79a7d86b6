pub mod CutLemmas
pub mod Decimals
pub mod EightDigits
pub mod Examples
pub mod HexDigits
mod LineLemmas
pub mod Pairs
pub mod PrintedDigits
pub mod Tests
