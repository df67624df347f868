-- How many entries there are. Laws only.
use Rattle.std.specs.Prelude.{ℕ, ◌*◌, ◌≤◌}
use Rattle.std.proofs.Common.{mul-le-mul}

pub room : (n N : ℕ) → n ≤ 256 → N ≤ 65536 → n * N ≤ 0x100_0000
room n N h g = mul-le-mul h g
