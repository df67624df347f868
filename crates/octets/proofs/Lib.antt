-- The laws that reading and writing numbers as bytes rest on.
pub mod BytesLaws
pub mod StoreLaws
