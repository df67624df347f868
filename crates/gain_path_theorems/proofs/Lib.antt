-- Laws and theorems: what follows of the definitions in specs/.
pub mod HypotNumbers
pub mod CovarianceGain
pub mod EigenScaled
pub mod EigenTestLaws
pub mod EigenWorked
pub mod PassScaled
pub mod PathGain
pub mod PathWorked
pub mod Tql2Scaled
pub mod Tql2TestLaws
pub mod Tql2Worked
pub mod ReductionScaled
pub mod AccumulationScaled
pub mod Tred2Scaled
