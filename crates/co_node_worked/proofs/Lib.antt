pub mod ChainExamples
