pub mod Control
pub mod Calls
