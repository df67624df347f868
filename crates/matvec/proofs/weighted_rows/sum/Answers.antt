use mathlib.Core.Path.{◌≡◌, ◌∙◌, ap}
use Prim.Native.Nat.{◌+◌}
use native.Mathlib.Omega.{arith}
use Rattle.std.proofs.lemmas.Grind.{common_steps}
use Rattle.grid.specs.Real.{zeros}
use Rattle.grid.specs.TableLaws.{turns, turns_none}
use Rattle.matvec.specs.Strips.{column_step, band_done}
use Rattle.matvec.proofs.weighted_rows.sum.Goals as goal

pub loop-j-init : goal.loop-j-init
loop-j-init c =
    let filled : c.fill.new.self ≡ zeros c.args.n = grind (arith, common_steps) in
    (omega arith, filled ∙ turns_none (column_step c.args.n c.args.a.now c.args.v.now) c.args.n)

pub loop-j-preserved : goal.loop-j-preserved
loop-j-preserved c =
    let e : c.min.result ≡ c.loop-j.j + 8 = omega (arith, c.min.ensures) in
    (omega arith, band_done c.args.n c.args.a.now c.args.v.now c.loop-j.j c.min.result c.loop-j.w (omega arith) (omega arith) c.loop-j.invariant.1 c.band.ensures ∙ ap (turns (column_step c.args.n c.args.a.now c.args.v.now) c.args.n) e)

pub returns-2 : goal.returns-2
returns-2 c =
    let e : c.min.result ≡ c.args.m = omega (arith, c.min.ensures) in
    band_done c.args.n c.args.a.now c.args.v.now c.loop-j.j c.min.result c.loop-j.w (omega arith) (omega arith) c.loop-j.invariant.1 c.band.ensures ∙ ap (turns (column_step c.args.n c.args.a.now c.args.v.now) c.args.n) e

pub returns : goal.returns
returns c =
    let e : c.loop-j.j ≡ c.args.m = omega (arith, c.loop-j.invariant.0) in
    c.loop-j.invariant.1 ∙ ap (turns (column_step c.args.n c.args.a.now c.args.v.now) c.args.n) e
