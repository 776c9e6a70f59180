pub mod Deaths
pub mod Listed
