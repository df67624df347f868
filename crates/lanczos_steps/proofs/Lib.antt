-- Lemmas of the proofs: the loop over the steps.
mod Loop
