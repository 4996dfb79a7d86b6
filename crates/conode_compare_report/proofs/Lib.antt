pub mod AroundLaws
mod Examples
pub mod Places
pub mod SpanLemmas
pub mod WidthLaws
