-- What the contracts of the bench cite.
pub mod Counts
pub mod Benches
pub mod Setups
pub mod Logs
pub mod Ends
pub mod Drives
