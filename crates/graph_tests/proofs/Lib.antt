mod Keeping
mod Usable
