pub mod ServeLaws
pub mod CallLaws
pub mod ReadLaws
pub mod ProgramLaws
