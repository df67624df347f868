-- The square root as it is worked out on paper, one binary digit a turn. Laws only.
-- `turn` and `digits` are the method on paper, which the code's inner promises cite; no public promise cites them.
use Rattle.std.specs.Prelude.{ℕ, zero, suc, ◌+◌, ◌-◌, ◌*◌, ◌/◌, ◌%◌, ◌^◌, cond, nat_lt}
use Rattle.root.specs.declared.Found.{Found}

-- A turn, with the root s so far and the remainder r. Two digits are brought down behind the remainder, and 01 is written behind the root. Where the one does not go
-- into the other, the next digit is 0; where it does, it is 1, and that much is taken off.
unfoldable pub turn : ℕ → Found → Found
turn two w =
    let d = w.r * 4 + two in
    let t = w.s * 4 + 1 in
    cond (nat_lt d t) (record { s = w.s * 2; r = d }) (record { s = w.s * 2 + 1; r = d - t })

-- k turns, which bring down the digits of a, the first two at the top, the 62nd and 61st, and then zeros.
unfoldable pub digits : ℕ → ℕ → Found → Found
digits zero a w = w
digits (suc k) a w = digits k (a % 2 ^ 60 * 4) (turn (a / 2 ^ 60) w)
