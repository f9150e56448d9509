pub mod RoundLaws
pub mod PlaceLaws
pub mod RunLaws
pub mod Examples
