pub mod Lends
pub mod Slots
