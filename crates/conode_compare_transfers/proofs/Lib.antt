mod BlockEndExamples
mod Examples
mod RequestExamples
mod TimeoutExamples
