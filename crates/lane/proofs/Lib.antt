pub mod CursorOrder
pub mod CountOrder
pub mod OrderLaws
pub mod TableLaws
pub mod HeldLaws
pub mod FlushLaws
pub mod WindowLaws
pub mod AtHandLaws
