-- What was built for a bind is cut off, and dies.
pub mod ForgettingAll
pub mod Died
pub mod KeepingGates
pub mod Invalidating
pub mod LinksOff
pub mod Detached
pub mod CuttingOff
pub mod Moves
