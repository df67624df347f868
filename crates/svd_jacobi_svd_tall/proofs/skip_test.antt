-- What the functions' proofs share: an order of all floats, the root beside a number by its square, and the skip test by that.
mod Order
mod Beside
mod Settled
