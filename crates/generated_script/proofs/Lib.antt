mod Appending
pub mod Bounds
pub mod Counting
pub mod Printed
mod Splitting
pub mod Steps
