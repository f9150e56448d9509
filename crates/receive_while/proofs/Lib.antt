pub mod WhileLaws
pub mod WhileBatchLaws
