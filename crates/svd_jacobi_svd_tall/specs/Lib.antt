-- The skip test with no root.
pub mod SkipTest
-- One sweep of one-sided Jacobi.
pub mod Sweep
pub mod SweepSteps
pub mod SweepLengths
pub mod Turned
pub mod PairsApart
-- The values of a run, and what the marks look at.
pub mod SingularValues
pub mod SingularValuesSteps
-- What the marks of a run of one-sided Jacobi look at.
pub mod Marks
-- One-sided JacobiSvdTall: the steps of `jacobi_svd_tall`, its run with marks and limit, and the laws of the run.
pub mod JacobiSvdTall
pub mod SweepCount
