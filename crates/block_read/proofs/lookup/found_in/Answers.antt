use mathlib.Core.Path.{sym}
use native.Mathlib.Omega.{arith}
use Rattle.block_read.specs.CheckLaws.{opened}
use Rattle.block_read.specs.LookupLaws.{span_taken}
use Rattle.block_read.proofs.lookup.found_in.Goals as goal

pub number-requires : goal.number-requires
number-requires c = omega (arith, opened c.args.t.now (span_taken c.args.t.now c.args.kind (sym c.in_ok-a.ensures.value)))

pub number-requires-2 : goal.number-requires-2
number-requires-2 c = omega (arith, opened c.args.t.now (span_taken c.args.t.now c.args.kind (sym c.in_ok-a.ensures.value)))
