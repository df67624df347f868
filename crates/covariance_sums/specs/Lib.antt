-- The exact sums of bands of integer samples.
pub mod Sums
pub mod SumsLaws
