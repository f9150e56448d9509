pub mod Seen
pub mod InOrder
