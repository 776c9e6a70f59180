pub mod Meaning
pub mod LastCall
pub mod Progress
pub mod Row
pub mod Choosing
pub mod Computing
pub mod Lacking
pub mod Looking
