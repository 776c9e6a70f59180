pub mod Alarms
pub mod Levels
pub mod Places
pub mod Queue
pub mod Slots
pub mod Timers
