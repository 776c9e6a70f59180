pub mod CommandView
pub mod Fits
pub mod Within
pub mod NamesView
pub mod Rows
pub mod Typing
pub mod Verdict
