-- Lemmas of packing.
mod Numerals
mod Texts
mod Listings
mod Reasons
