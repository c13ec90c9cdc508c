-- What the contracts of the listing speak of.
pub mod Listed
