-- Laws and theorems: what follows of the definitions in specs/.
pub mod EditionLaws
pub mod OutcomeLaws
pub mod LengthsLaws
pub mod VerdictLaws
