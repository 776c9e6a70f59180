pub mod Between
pub mod Step
pub mod Change
pub mod Killing
pub mod Building
pub mod Round
pub mod Steady
pub mod Room
