-- What holds of the exact covariances and sums, cited by no code.
pub mod ExactEntries
pub mod ExactEntriesLaws
pub mod Diagonal
pub mod OneOutcome
pub mod ExactSums
pub mod ExactSumsLaws
