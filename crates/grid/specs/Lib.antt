-- Loops as definitions, f64 by short names, vectors and matrices in one list.
pub mod Loop
pub mod LoopLaws
pub mod Real
pub mod Cell
pub mod CellLaws
pub mod Table
pub mod TableLaws
