mod Fitting
mod Listing
mod Within
mod Table
mod TypedArguments
mod TypedSteps
mod Variables
