-- Laws and theorems: what follows of the definitions in specs/.
pub mod Pairs
pub mod RunOutcomeLaws
pub mod OldContents
pub mod LimitCalls
