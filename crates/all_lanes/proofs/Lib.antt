pub mod ControlBounds
pub mod SlotLoops
pub mod CountHeldLaws
pub mod ReleaseConsumedLaws
pub mod PollAllLaws
