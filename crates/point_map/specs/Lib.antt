pub mod Buckets
pub mod BySlot
pub mod Chains
pub mod Lends
pub mod Links
pub mod Rows
