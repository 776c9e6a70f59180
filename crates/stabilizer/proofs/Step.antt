-- Steps: what one settles of a main, what it leaves, and that steps end.
pub mod Experts
pub mod Carrying
pub mod Mains
pub mod Stepping
pub mod Making
pub mod Falling
pub mod Left
pub mod MeaningKept
pub mod StillFit
pub mod Giving
pub mod Staying
pub mod Showing
pub mod Noting
