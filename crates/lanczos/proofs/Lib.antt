-- Lemmas of the proofs: what the run is lent.
mod Sizes
