mod Later
mod Passed
mod Runs
mod Spaces
mod Spans
