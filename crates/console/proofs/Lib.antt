-- What was read from the front of a reader.
mod Fronts
