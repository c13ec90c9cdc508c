-- What the contracts of the bus, and of the crates above it, cite.
pub mod Kinds
pub mod Lines
pub mod Order
pub mod Reactions
pub mod Theorems
