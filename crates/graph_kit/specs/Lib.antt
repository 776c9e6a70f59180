pub mod Setting
pub mod Settled
pub mod Shown
pub mod Trees
pub mod Typed
