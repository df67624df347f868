-- TridiagonalMatrix: the tridiagonal matrix of Lanczos.
pub mod TridiagonalMatrix
-- The tridiagonal problem of Lanczos. InPlaceLaws: laws.
pub mod TridiagonalEigen
pub mod InPlaceLaws
-- The pairs from the small problem's values and vectors. RitzPairsLaws: laws.
pub mod RitzPairs
pub mod RitzPairsLaws
-- The leading pairs.
pub mod LeadingPairs
