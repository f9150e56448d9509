pub mod Lane
pub mod Order
pub mod Table
