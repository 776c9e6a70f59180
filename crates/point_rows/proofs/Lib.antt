pub mod Cells
pub mod Counted
pub mod Ending
pub mod Heaped
pub mod Rewriting
pub mod Turned
