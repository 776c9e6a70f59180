pub mod Keeping
pub mod Folding
pub mod Rewriting
pub mod Held
pub mod Pairs
mod Reasons
pub mod ByClock
pub mod Lacking
pub mod Lent
pub mod Computing
pub mod Looking
pub mod Rights
pub mod Experts
mod Frozen
