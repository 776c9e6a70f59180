pub mod Arithmetic
pub mod Held
pub mod Making
pub mod Sides
