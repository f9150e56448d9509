pub mod Calls
pub mod Serve
pub mod Program
