pub mod Kind
pub mod Record
pub mod Stream
pub mod Examples
