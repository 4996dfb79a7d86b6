mod Examples
mod OtherIdExamples
