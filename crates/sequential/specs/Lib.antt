-- What the contracts of the machine, and of the crates above it, cite.
pub mod Sequential
pub mod Laws
pub mod Cases
pub mod Racks
pub mod Runs
