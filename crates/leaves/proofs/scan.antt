-- What the functions' proofs share.
mod Search
mod All
