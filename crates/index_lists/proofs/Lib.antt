mod Leading
mod Seen
mod Changes
