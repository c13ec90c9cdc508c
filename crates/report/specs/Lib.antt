-- What the contracts of reports speak of.
pub mod Lines
