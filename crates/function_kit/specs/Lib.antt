pub mod Making
pub mod Maps
pub mod Sides
