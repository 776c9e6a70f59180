pub mod Alarms
pub mod Awake
pub mod Stale
