pub mod Boxed
pub mod Handed
pub mod Places
