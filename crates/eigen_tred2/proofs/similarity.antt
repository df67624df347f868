-- What the functions' proofs share.
mod Together
