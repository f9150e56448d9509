pub mod Rounds
pub mod Parts
pub mod Place
pub mod Ran
