use Rattle.std.proofs.Common.{arith}
use Rattle.hypot.specs.Working.{more, first_lt}
use Rattle.hypot.proofs.whole_root.Goals as goal

pub digits-requires : goal.digits-requires
digits-requires c =
    let a = more _ (record { s = 0; r = 0 }) _ (omega arith) (omega arith) c.digits-w.ensures in
    (a.1, omega arith, first_lt _ _ _ a.0 (omega arith))

pub returns : goal.returns
returns c =
    let a = more _ (record { s = 0; r = 0 }) c.digits-w.result (omega arith) (omega arith) c.digits-w.ensures in
    let b = more _ c.digits-w.result c.digits.result a.1 (omega arith) c.digits.ensures in
    (omega (arith, a.0, b.0), omega (arith, b.1))
