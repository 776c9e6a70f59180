mod Adding
mod Tables
