-- Lemmas of playing.
mod Told
mod Driven
mod FareRuns
