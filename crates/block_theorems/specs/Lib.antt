-- What holds of the calls on transform blocks: reading and writing are inverse, what the lookup finds, doubles, one outcome.
pub mod Sound
pub mod Inverse
pub mod FoundLaws
pub mod PlacedLaws
pub mod Doubles
pub mod OneOutcome
