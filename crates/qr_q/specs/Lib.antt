-- What `qr_q` comes back with.
pub mod QrQ
pub mod OneOutcome
pub mod Quotient
pub mod Result
pub mod OldContents
pub mod Index
pub mod IndexLaws
