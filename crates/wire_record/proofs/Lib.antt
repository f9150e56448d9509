pub mod NumberLaws
pub mod KindLaws
pub mod ParseLaws
pub mod Examples
pub mod MoreLaws
pub mod StreamLaws
