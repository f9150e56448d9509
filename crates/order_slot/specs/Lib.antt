pub mod Tells
pub mod Clauses
