-- Writing: how a text of eigtext and its answer are written. Reading: how a text is read. Accepts: which texts those are, as T8 says it. The others are laws: T8 stands in AcceptsLaws.
pub mod Writing
pub mod Reading
pub mod Accepts
pub mod Laws
pub mod Numbers
pub mod AcceptsLaws
pub mod Stores
