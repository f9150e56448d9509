-- What the computed examples speak of: document 01's table as data, and the words for it. The examples themselves are in proofs/Examples.
-- Assumes nothing.
pub mod Pairs
pub mod Example
pub mod Stops
pub mod Table
