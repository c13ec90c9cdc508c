-- Laws of rows, for the proofs of this crate and of the crates above it.
pub mod Laws
pub mod Sorted
pub mod Keys
pub mod Steps
pub mod Shifts
pub mod Memory
pub mod Removed
pub mod Folds
pub mod Found
pub mod Minimum
pub mod Lent
pub mod Parts
pub mod Placed
pub mod Within
