-- The row of V^T: where it stands in an svd result.
pub mod VtRow
pub mod VtRowLaws
pub mod VtRowPlaced
-- The svd of a matrix: the sorted decomposition, and the outcome of a call. LoadedLaws, Sizes: laws.
pub mod Svd
pub mod LoadedLaws
pub mod Sizes
