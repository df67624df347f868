-- Theorems: the sides of `hypot2`, and its value at some numbers.
pub mod Sides
pub mod Examples
-- The theorems: `Choice`.
pub mod Choice
-- That `hypot2` is the nearest double.
pub mod Nearest
