-- What each call of the store does, the plain map that it is held to, and that it answers as that map does.
pub mod Store
pub mod SoundLaws
pub mod StartLaws
pub mod Calls
pub mod ListLaws
pub mod MapLaws
pub mod OneOutcome
-- Two owners over one store: what each call does, and that each owner sees what a store of its own would show it.
pub mod Owners
pub mod OwnersEvents
pub mod PartLaws
pub mod OwnersOneOutcome
