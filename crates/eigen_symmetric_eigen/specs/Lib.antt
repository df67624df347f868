-- Layout: how the matrix comes in. LayoutLaws, RowsLaws: laws on this, and on how the vectors go out.
pub mod Layout
pub mod LayoutSteps
pub mod LayoutLaws
pub mod RowsLaws
-- What is handed back. Laws only.
pub mod ResultLaws
-- AfterTred2: mark 0, and the run after tred2.
pub mod AfterTred2
-- SymmetricEigen: the definition of symmetric_eigen, what a call gives, for every input. PartsLaws, ChecksLaws: laws.
pub mod SymmetricEigen
pub mod PartsLaws
pub mod ChecksLaws
