pub mod Cells
pub mod Heap
pub mod Standing
pub mod Written
