mod First
pub mod Graph
mod Once
mod Order
mod Rows
mod Sound
mod Setting
pub mod Growing
pub mod RightSides
pub mod SameMeanings
