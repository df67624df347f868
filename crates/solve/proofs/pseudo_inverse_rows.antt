-- A row as the code works it out.
pub mod Sums
