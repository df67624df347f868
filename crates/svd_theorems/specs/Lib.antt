-- What holds of `svd`, cited by no code: its sweeps by document 000's own, its order, its factors, what its index says.
pub mod Document
pub mod Lengths
pub mod SweepsOutcome
pub mod Outcome
pub mod Order
pub mod Limit
pub mod OldContents
pub mod Index
