-- Lemmas of the oracle.
mod More
mod Reached
mod Few
mod Whole
mod Lawful
