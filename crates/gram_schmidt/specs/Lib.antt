-- Gram-Schmidt of one column.
pub mod Gram
-- A column made one of the basis.
pub mod Unit
