pub mod SameTypes
pub mod Walk
