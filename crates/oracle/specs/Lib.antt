-- What the contracts of the oracle cite.
pub mod Offers
pub mod Machines
pub mod Texts
pub mod Laws
