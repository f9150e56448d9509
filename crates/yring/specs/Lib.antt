pub mod Lists
pub mod Cursor
pub mod Ring
pub mod Release
