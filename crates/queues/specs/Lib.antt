pub mod Header
pub mod Queue
pub mod Registry
