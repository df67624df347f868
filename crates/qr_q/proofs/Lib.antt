-- A loop that ends early, and what the checks of `qr_q` leave.
pub mod Early
