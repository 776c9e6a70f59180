mod Places
mod Halves
mod Indexing
mod Seeing
