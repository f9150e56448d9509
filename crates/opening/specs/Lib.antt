pub mod Opening
pub mod FirstCursor
