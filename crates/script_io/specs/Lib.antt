pub mod Causes
pub mod CommandLine
pub mod Endings
pub mod Lines
pub mod Memory
pub mod Bytes
pub mod Reading
