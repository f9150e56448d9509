pub mod TurnLaws
pub mod FrontLaws
pub mod CollectKeeps
pub mod DrainedLaws
pub mod DueLaws
