-- Lemmas of the bench.
pub mod Begins
pub mod Offers
pub mod Standing
pub mod Reacts
pub mod Deliveries
pub mod Lines
pub mod Logs
pub mod Drives
pub mod Boards
