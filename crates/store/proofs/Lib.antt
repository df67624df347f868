-- What the functions' proofs share.
mod Fits
mod Found
-- What C gets of a result tells the result.
pub mod RefusalLaws
