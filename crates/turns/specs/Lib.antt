pub mod Turn
pub mod Drained
pub mod Due
