-- Lemmas.
pub mod Events
pub mod Memories
pub mod Searches
pub mod Changes
pub mod Sheds
pub mod Outlooks
pub mod Joins
pub mod Same
pub mod Fronts
