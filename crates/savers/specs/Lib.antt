-- The definitions that the contracts cite.
pub mod Rows
pub mod Replays
pub mod Refusals
pub mod ReplaysLemmas
pub mod Cases
