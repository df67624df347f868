-- What the parts of `hypot2` compute.
pub mod RoundingParts
-- Hypot2: hypot, correctly rounded. NearestEven: what it means to be the nearest double. The others: how a root is worked out and rounded.
pub mod Hypot2
pub mod NearestEven
pub mod Stretch
pub mod Over
pub mod Rounds
pub mod Working
pub mod Patterns
pub mod Middle
-- The choice between the editions.
pub mod Edition
