-- A series of tiles and tallies that are refused, computed.
pub mod Worked
-- That figures and tally agree after any series.
pub mod Counted
