-- The writer of a transform block, from bits and from doubles, and the length of a block.
pub mod Writing
pub mod PutLaws
