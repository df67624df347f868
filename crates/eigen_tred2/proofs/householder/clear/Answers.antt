use mathlib.Core.Path.{◌≡◌, ◌∙◌, sym, ap}
use Prim.Native.Nat.{ℕ, ◌≤◌}
use mathlib.Core.List.{◌++◌}
use native.Mathlib.Omega.{arith}
use lib.ListN.{length, drop}
use Rattle.std.proofs.lemmas.Grind.{common_steps}
use Rattle.grid.specs.Real.{Vec, zero64, zeros}
use Rattle.grid.specs.TableLaws.{each_so_far, zeros_table}
use Rattle.eigen_tred2_definition.specs.Tred2.{clear}
use Rattle.eigen_tred2.proofs.householder.clear.Goals as goal

cleared : (i : ℕ) (e : Vec) → i ≤ length e → zeros i ++ drop i e ≡ clear i e
unfolding clear
cleared i e h = ap (λ (z : Vec). z ++ drop i e) (zeros_table i) ∙ sym (each_so_far (λ j x. zero64) e i h)

pub returns : goal.returns
returns c =
    let filled : c.fill.new.self ≡ zeros c.args.i = grind (arith, common_steps) in
    ap (λ (z : Vec). z ++ drop c.args.i c.args.e.now) filled ∙ cleared c.args.i c.args.e.now c.requires
