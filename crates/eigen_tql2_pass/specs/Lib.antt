-- Transform: the definition of the QL transformation of one pass.
pub mod Transform
pub mod TransformSteps
-- Pass: the definition of one QL pass of tql2.
pub mod Pass
