-- What the contracts of schedule files speak of.
pub mod Layout
pub mod Faults
pub mod Reading
pub mod Lines
pub mod Cases
