mod Commands
mod Freezes
mod Numbers
mod Steps
