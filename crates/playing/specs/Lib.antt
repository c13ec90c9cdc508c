-- What the contracts of playing speak of.
pub mod Asked
pub mod Texts
pub mod Outcomes
pub mod Runs
pub mod Tells
