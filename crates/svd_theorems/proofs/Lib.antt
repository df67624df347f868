-- Laws and theorems: what follows of the definitions in specs/.
pub mod SweepsOutcomeLaws
pub mod OutcomeLaws
pub mod Promise
pub mod Result
pub mod Flags
pub mod IndexLaws
