mod ChoosingExamples
mod Examples
