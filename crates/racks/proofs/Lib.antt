-- The lemmas of the crate, and those for the crates above it.
pub mod Refused
pub mod Fronts
pub mod Begins
