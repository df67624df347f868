-- Rows added up, sixteen columns at a time. Strips: laws.
pub mod Strips
-- A matrix by a vector, and a multiple of one vector added to another. Rows: laws.
pub mod Matvec
pub mod Rows
-- The product of a symmetric matrix. Symmetry: laws.
pub mod Symmetry
