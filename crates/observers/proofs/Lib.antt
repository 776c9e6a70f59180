pub mod Lists
pub mod Marks
pub mod Listing
pub mod Climbing
pub mod Covering
pub mod Keeping
