-- What holds of every call of `lanczos`, by its promise alone.
pub mod Early
pub mod LimitLaws
pub mod Limit
pub mod Result
pub mod OneOutcome
pub mod RunOutcome
pub mod Pairs
