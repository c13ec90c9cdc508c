-- The rules of the bench, one file for each call, the law of runs, and what a bench keeps.
pub mod Refusals
pub mod State
pub mod Outlook
pub mod Offer
pub mod Deliver
pub mod Run
pub mod Commit
pub mod Lines
pub mod Perform
pub mod Law
pub mod Outcomes
pub mod Kept
pub mod Cases
