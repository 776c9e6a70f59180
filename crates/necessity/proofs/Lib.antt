pub mod Counts
pub mod Turning
pub mod Steps
pub mod Starts
pub mod Reaching
pub mod Sound
mod Idle
