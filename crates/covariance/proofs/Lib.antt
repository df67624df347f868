-- The steps of the loop over the entries.
pub mod Steps
