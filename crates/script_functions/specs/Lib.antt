pub mod Bodies
pub mod Filling
pub mod Keeping
pub mod KeepingLaws
pub mod Lines
pub mod Underway
pub mod UnnamedLaws
