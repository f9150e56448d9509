pub mod While
