-- Laws and theorems: what follows of the definitions in specs/.
pub mod Tql2OutcomeLaws
pub mod Tql2Marks
pub mod OutcomeLaws
pub mod Result
pub mod Taken
pub mod Index
pub mod Limit
pub mod Theorems
-- StepsKept: what a run in steps keeps. StepsMade: the invariant of a run's record and arrays. StepsEnd: the theorems. StepCalls: the same over calls that meet their promises.
pub mod StepsKept
pub mod StepsMade
pub mod StepsEnd
pub mod StepsPasses
pub mod StepCalls
pub mod Raised
