pub mod Adding
mod Calling
mod Lawful
mod Lists
mod MoreBodies
mod Reading
mod Stepping
mod Tables
