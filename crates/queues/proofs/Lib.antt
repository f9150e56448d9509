pub mod Pigeonhole
pub mod QueueLaws
pub mod Sift
pub mod NamesLaws
pub mod MovedDown
pub mod RegistryLaws
pub mod HeaderLaws
pub mod FrameLaws
