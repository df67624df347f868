-- The laws that the store's loops go by, and the answers that refusals come to.
pub mod LoopLaws
pub mod BitLaws
pub mod Refusals
pub mod Parts
