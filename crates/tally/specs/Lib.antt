-- The outcomes as the code comes to them.
pub mod OutcomeLaws
