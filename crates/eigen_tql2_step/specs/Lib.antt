-- Checks: what is refused of a run still going. CheckLaws: laws.
pub mod Checks
pub mod CheckLaws
-- SkipSettled: settled l are skipped. SkipSettledLaws: laws.
pub mod SkipSettled
pub mod SkipSettledLaws
-- Advance: the run over l, pass by pass.
pub mod Advance
