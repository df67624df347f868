-- Laws and theorems: what follows of the definitions in specs/.
pub mod StepLaws
pub mod LineLaws
