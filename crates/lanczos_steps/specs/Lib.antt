-- The first vector.
pub mod StartVector
-- Reorthogonalise: the two rounds. AgainstLaws: laws.
pub mod Reorthogonalise
pub mod AgainstLaws
-- The end of a step.
pub mod StepEnd
-- The Lanczos steps. KrylovLaws: laws.
pub mod Krylov
pub mod KrylovLaws
