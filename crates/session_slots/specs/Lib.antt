pub mod Answers
pub mod Handed
pub mod Handles
pub mod Holding
pub mod Notices
pub mod Slots
