mod Binding
mod Making
