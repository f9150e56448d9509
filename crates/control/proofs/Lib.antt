pub mod WithLane
pub mod ResumeCases
pub mod CloseReceiverLaws
pub mod PauseLaws
pub mod ResumeLaws
pub mod CloseLaneLaws
pub mod ControlLaws
