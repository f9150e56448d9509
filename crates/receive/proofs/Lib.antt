pub mod ReceiveLaws
pub mod FastLaws
