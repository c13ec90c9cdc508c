-- The definitions that the contracts cite.
pub mod Racks
pub mod Starts
pub mod Sides
pub mod Refusals
pub mod SidesLemmas
