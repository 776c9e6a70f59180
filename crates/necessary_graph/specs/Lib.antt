pub mod Part
pub mod Readers
pub mod Room
pub mod Sweep
