pub mod OpeningBounds
pub mod OpeningLaws
pub mod FirstCursor
