pub mod OutputLaws
pub mod LookLaws
pub mod ChunkLaws
pub mod DrainLaws
pub mod BatchLaws
