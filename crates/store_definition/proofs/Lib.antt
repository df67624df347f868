-- A worked sequence of calls, and lists that are refused, computed.
pub mod Worked
-- Calls of both owners and what each gives, computed.
pub mod OwnersWorked
-- That the store answers as the plain map does, that each owner sees what a store of its own would show it, and what comes of a damaged store.
pub mod KeptLaws
pub mod LaidLaws
pub mod Damaged
pub mod Nobody
pub mod OwnersApart
pub mod Sequence
