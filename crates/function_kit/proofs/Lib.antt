mod Making
mod Picking
