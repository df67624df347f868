-- The run of `tql2` as document 000's own loops, and what follows of its limit, its lengths and its sort.
pub mod Tql2Limit
pub mod Tql2Invariant
pub mod Tql2Document
pub mod Tql2DocumentLaws
pub mod Tql2Lengths
pub mod Tql2Outcome
pub mod Permutation
pub mod Tql2SortLaws
-- `symmetric_eigen` beside document 000, and where each of its numbers is given.
pub mod Document
pub mod DocumentLaws
pub mod Outcome
pub mod OldContents
pub mod Edition
-- StepsRuns: a start and steps, the arrays untouched between. StepsRest: what is left of a run, and that a step changes nothing of it.
pub mod StepsRuns
pub mod StepsRest
