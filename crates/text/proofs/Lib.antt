-- The scope's example and some bad texts, computed.
pub mod Worked
