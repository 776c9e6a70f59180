pub mod Chains
mod KeptPlaces
mod Links
mod Moving
pub mod Places
