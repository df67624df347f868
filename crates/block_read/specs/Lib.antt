-- A transform block: what it holds, its bytes, and what the reader answers.
pub mod Content
pub mod Reading
pub mod Refusals
pub mod CheckLaws
-- What a block holds by its places, the part of a kind from one of two blocks, and its numbers as doubles.
pub mod Held
pub mod Lookup
pub mod LookupLaws
