-- Laws and theorems: what follows of the definitions in specs/.
pub mod Refusals
pub mod CovarianceRan
