use mathlib.Core.Path.{◌≡◌, ◌∙◌, ap}
use Prim.Native.Nat.{ℕ}
use native.Mathlib.Omega.{arith}
use Rattle.text.specs.Writing.{joined}
use Rattle.text_tiles_definition.specs.Report.{figure_line, end_text}
use Rattle.text_tiles_definition.specs.ReportLaws.{figures_short}
use Rattle.text.specs.Stores.{append_then, append_front}
use mathlib.Core.List.{List, ◌++◌}
use Rattle.text_tiles.proofs.write.write.Goals as goal

behind : {k m : ℕ} {l o : List ℕ} → ◌≡◌ {A = ℕ × List ℕ} (k, l) (m, o) → k ≡ m
behind e = ap (λ (s : ℕ × List ℕ). s.0) e

pub put_all-requires : goal.put_all-requires
put_all-requires c = omega (arith, behind c.put_figures-at.ensures, figures_short c.args.t 20)

pub returns : goal.returns
returns c = append_then (0, c.args.out.now) (c.put_figures-at.result, c.put_figures-at.new.out) (c.put_all.result, c.put_all.new.out) (joined (figure_line c.args.t) 20) end_text c.put_figures-at.ensures c.put_all.ensures ∙ append_front c.args.out.now (joined (figure_line c.args.t) 20 ++ end_text)
