mod Moving
mod Sound
mod Dying
mod Entering
mod Giving
