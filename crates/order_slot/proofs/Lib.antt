pub mod TellsLaws
pub mod LaneLaws
pub mod SlotLaws
