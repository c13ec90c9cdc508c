-- What the contracts of packing speak of.
pub mod Wrong
pub mod Packing
pub mod Sentences
