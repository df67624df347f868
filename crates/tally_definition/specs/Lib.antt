-- The figures of a list of tiles, and what adding a tile to a tally does.
pub mod Figures
pub mod Refusals
pub mod Tallies
pub mod Series
pub mod TallyLaws
pub mod OneOutcome
