-- Laws and theorems: what follows of the definitions in specs/.
pub mod Round
pub mod RootScaled
pub mod Ops
pub mod Plus
pub mod Times
pub mod Turn
pub mod Sweep
pub mod Values
pub mod Out
pub mod Gain
pub mod TestLaws
pub mod Worked
