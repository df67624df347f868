-- T1, the root, in full, and its proof over all doubles.
pub mod NearnessLaws
pub mod Root
