pub mod Counting
pub mod Need
pub mod Turn
