-- What the marks look at.
pub mod Marks
