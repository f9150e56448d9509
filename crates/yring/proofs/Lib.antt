pub mod ListLaws
pub mod CursorLaws
pub mod ReleaseLaws
pub mod RingLaws
pub mod AdmittedLaws
