-- Lemmas on numbers that are put one before the other.
mod Fronts
mod Spaced
