pub mod Observers
pub mod Keeping
