-- Over53: the definition. WholeNumbers: laws, that nothing leaves its bits.
pub mod Over53
pub mod WholeNumbers
-- SampleSums: the definitions. Lifts: laws, how the code lifts the products.
pub mod SampleSums
pub mod Lifts
-- The entries of the covariances, worked out and stored.
pub mod MatrixEntries
pub mod StoredEntries
pub mod SwappedEntries
pub mod BandParts
-- The exact covariances of integer samples.
pub mod Covariance
pub mod ChecksLaws
