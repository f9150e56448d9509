pub mod View
pub mod Order
pub mod Held
pub mod Refusal
pub mod Words
pub mod Signal
pub mod Registry
