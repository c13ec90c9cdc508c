-- What the contracts of addressing speak of.
pub mod Settings
pub mod Batches
