-- What the contracts of queues cite.
pub mod Sums
pub mod Memory
pub mod Entries
pub mod Arrivals
pub mod Outlooks
pub mod Transits
pub mod Fronts
