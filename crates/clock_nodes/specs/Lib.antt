pub mod Clock
pub mod Generations
pub mod Keeping
pub mod Kinds
