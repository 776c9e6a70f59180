pub mod Chains
pub mod Levels
pub mod Climbs
pub mod Faults
pub mod Answers
