mod ChangeLaws
mod ChangeExamples
