pub mod Experts
pub mod Links
