-- Arrays: a run on the arrays that it is lent. ArraysLaws: laws.
pub mod Arrays
pub mod ArraysLaws
-- PastChecks: what the checks leave. Laws only.
pub mod PastChecks
-- Steps: what a start, a step and a finish give. StepsLaws: laws.
pub mod Steps
pub mod StepsLaws
