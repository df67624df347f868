-- Samples times a power of two: what `covariance` makes of them.
pub mod Wholes
pub mod CovarianceGained
-- hypot of both editions under a power of two.
pub mod HypotFine
pub mod HypotScaled
-- One QL pass of `tql2` under a power of two.
pub mod PassFine
pub mod Numbers
-- `tql2` from d and e under a power of two.
pub mod Tql2Fine
-- What `tql2_gain` asks, computed.
pub mod Tql2Test
-- `tred2` under a power of two.
pub mod Tred2Fine
pub mod Places
-- `symmetric_eigen` under a power of two: the whole call.
pub mod EigenFine
-- What it asks, computed.
pub mod EigenTest
pub mod EigenCases
pub mod EigenCounter
