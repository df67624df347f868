-- What a least-squares solution is, and laws for the code.
pub mod Solution
pub mod SolutionLaws
-- What a pseudo-inverse is, and laws for the code.
pub mod PseudoInverse
pub mod PseudoInverseLaws
-- What `solve` and `pseudo_inverse` come back with.
pub mod Solve
pub mod ChecksLaws
pub mod OneOutcome
pub mod Index
pub mod WithoutToleranceCheck
