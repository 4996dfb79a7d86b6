pub mod Claims
mod Examples
pub mod NamedIds
pub mod NoClaims
pub mod NothingNamed
pub mod Pieces
mod ServiceExamples
