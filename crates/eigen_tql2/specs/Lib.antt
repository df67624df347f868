-- Sort: the definition of the sort of tql2. SortBounds: laws.
pub mod Sort
pub mod SortSteps
pub mod SortBounds
-- LStartEnd: how a run comes to an l, and how it leaves it. LStartEndBounds: laws.
pub mod LStartEnd
pub mod LStartEndBounds
-- RunOverL: the run over l. RunOverLBounds: laws.
pub mod RunOverL
pub mod RunOverLBounds
-- Finish: mark 2, the answer of a run, and the sort.
pub mod Finish
-- Tql2: the definition of tql2, with its marks and its limit. Tql2Laws: laws.
pub mod Tql2
pub mod Tql2Steps
pub mod Tql2Laws
