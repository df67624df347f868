-- The order of a decomposition.
pub mod Order
pub mod Rank
-- A decomposition as a result, and where its parts stand. OutLaws, ResultSizes: laws.
pub mod Result
pub mod OutLaws
pub mod ResultSizes
