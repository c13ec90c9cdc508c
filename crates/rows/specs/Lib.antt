-- What the contracts of rows cite.
pub mod Held
pub mod Numbers
pub mod Order
pub mod Refusals
pub mod Rows
pub mod Theorems
