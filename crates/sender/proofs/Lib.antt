pub mod IssueLaws
pub mod FlushedLaws
pub mod SenderBounds
pub mod SendLaws
pub mod DropLaws
pub mod PassedLaws
pub mod RegisterLaws
pub mod SenderLaws
