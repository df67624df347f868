-- The similarity transformation by pairs of columns.
pub mod ColumnPairs
-- Columns turned together.
pub mod Columns
