-- Changes that are settled without a build.
pub mod Changing
pub mod Waiting
pub mod Steps
pub mod Turned
pub mod Moves
pub mod Again
pub mod Lacking
