-- What the checks of `solve` and `pseudo_inverse` leave.
pub mod Checks
-- The theorems: the index, old contents, what a good answer is, and the tolerance.
pub mod IndexLaws
pub mod OldContents
pub mod Result
pub mod Tolerance
