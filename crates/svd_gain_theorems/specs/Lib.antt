-- Gain: a number times a power of two, and what that does to each operation of binary64, to loops and to vectors.
pub mod Scale
pub mod ScaleLaws
pub mod Compare
pub mod Along
pub mod AlongLaws
pub mod Alike
pub mod AlikeLaws
pub mod Found
-- Gain does not move the basis: `svd` of a matrix and of a power of two times it.
pub mod Fine
pub mod Gained
pub mod LeftLaws
-- What `gain_keeps_basis` asks, computed: where it is so, and what happens where a clause of it is not.
pub mod Test
pub mod Cases
pub mod Counter
