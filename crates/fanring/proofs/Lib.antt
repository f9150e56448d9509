pub mod CheckedLaws
pub mod CheckedCalls
pub mod Mixed
pub mod NeverFive
pub mod Demands
pub mod CheckedExamples
