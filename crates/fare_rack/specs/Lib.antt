-- What the contracts of the rack, and of the crates above it, cite.
pub mod FareRacks
