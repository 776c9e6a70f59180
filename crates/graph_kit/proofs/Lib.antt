mod Assigning
mod Forking
mod Seeing
mod Shown
mod Typing
