pub mod Freezes
pub mod Mentions
mod Sought
