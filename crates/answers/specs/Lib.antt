-- The answer of a call.
pub mod Answers
pub mod Refusals
pub mod AnswersLaws
pub mod Early
pub mod Index
pub mod IndexLaws
-- The checks that several calls share.
pub mod Checks
pub mod ChecksLaws
pub mod ToleranceLaws
