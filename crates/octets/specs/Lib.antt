-- Numbers as bytes, and numbers as bits.
pub mod Bytes
pub mod Bits
