mod Calls
mod Shown
