-- The square root: its definition, the parts and the steps of working it out, and what being nearest is.
pub mod Root
pub mod Parts
pub mod School
pub mod Nearest
