-- Right sides are built, and what a bind that is built anew leaves.
pub mod ReadingBack
pub mod Growing
pub mod Adopting
pub mod Disowning
pub mod Built
pub mod EveryPoint
pub mod ToBuild
pub mod Remade
pub mod Anew
pub mod Kept
pub mod Asks
pub mod Moves
pub mod Counts
pub mod Ends
pub mod Sums
pub mod Weighing
