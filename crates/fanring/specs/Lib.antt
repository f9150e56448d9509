pub mod Checked
pub mod Runs
pub mod Mixed
pub mod Demands
