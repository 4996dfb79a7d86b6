pub mod CheckLemmas
mod Examples
