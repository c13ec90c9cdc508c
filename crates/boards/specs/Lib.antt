-- The definitions that the contracts cite.
pub mod Kinds
pub mod Counts
pub mod Ticker
pub mod Reader
pub mod FareComputer
pub mod Cases
