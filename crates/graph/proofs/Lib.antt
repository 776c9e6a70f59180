pub mod Needing
pub mod Nesting
pub mod Observing
pub mod Seeing
pub mod Sound
pub mod Faulting
pub mod Adding
pub mod Stabilizing
pub mod Steadying
pub mod Rounding
pub mod Unobserving
pub mod TakingBack
pub mod Cutting
pub mod Dead
mod Anew
mod Certain
pub mod Owning
pub mod Fitting
pub mod Knowing
pub mod Grouping
pub mod Timing
pub mod Moving
pub mod Telling
pub mod Freezes
pub mod Linking
mod Listing
mod Asking
