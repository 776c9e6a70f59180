pub mod Calls
pub mod Operations
pub mod Functions
pub mod FunctionLaws
