mod Building
mod Taken
mod Whole
