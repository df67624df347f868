-- Lemmas of the proofs: the parts of work, and what the steps leave there.
mod Parts
mod Steps
