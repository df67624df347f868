-- Checks: what a call refuses by its sizes. FitsLaws: what is asked behind that. SizesLaws, ChecksLaws: laws.
pub mod Checks
pub mod FitsLaws
pub mod SizesLaws
pub mod ChecksLaws
-- The Lanczos run from a start vector.
pub mod Run
-- `top_eigenpairs_lanczos` with a start vector: what a call gives, for every input. LanczosLaws: laws.
pub mod Lanczos
pub mod LanczosLaws
