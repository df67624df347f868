-- What `leading` comes back with.
pub mod Leading
pub mod ChecksLaws
pub mod Result
