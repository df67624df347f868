-- Laws: that `tred2` reads nothing above the diagonal, and that it keeps lengths.
pub mod Agree
pub mod Lower
pub mod Sizes
