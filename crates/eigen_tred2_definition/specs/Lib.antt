-- Tred2: the definition that `tred2` is proved equal to; Tred2Steps: its steps by name.
pub mod Tred2
pub mod Tred2Steps
