pub mod Counting
pub mod Signature
pub mod TableLaws
pub mod Tables
