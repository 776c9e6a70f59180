pub mod Naming
pub mod Reading
pub mod TreeView
pub mod View
