pub mod Answer
pub mod AnswerExamples
pub mod Numbers
