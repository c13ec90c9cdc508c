-- Laws of the machine, for the proofs of this crate and of the crates above it.
pub mod Firsts
pub mod Logs
pub mod Turns
pub mod Ties
pub mod Goings
