pub mod Counting
pub mod Generated
pub mod Summary
