-- What the proofs of an entry and of the loop over them share.
pub mod Entry
pub mod Steps
