-- What the functions' proofs share: two pairs side by side, and rows of pairs two by two.
mod TwoRows
