pub mod Cutoff
pub mod Kept
