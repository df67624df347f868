-- What the functions' proofs share.
mod Less
mod Sign
mod Class
