-- Sums as the code works them out.
pub mod Sums
