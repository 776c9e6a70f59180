mod Counting
mod Course
mod Generated
mod Steps
mod Sums
pub mod Turns
