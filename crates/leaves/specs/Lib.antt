-- The leaves: what the routines share below the loops.
pub mod Leaf
pub mod Scan
pub mod Finite
pub mod ScanLaws
pub mod Both
pub mod FiniteLaws
pub mod Compare
