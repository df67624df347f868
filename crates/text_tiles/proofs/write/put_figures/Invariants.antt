use Rattle.std.proofs.Common.{ℕ, List, ◌≡◌, ◌+◌}
use Rattle.text.specs.Writing.{joined}
use Rattle.text.specs.Stores.{append}
use Rattle.text_tiles_definition.specs.Report.{figure_line}
use Rattle.text_tiles.proofs.write.put_figures.Given as goal

abbrev pub invariant-loop-count : goal.invariant-loop-count
invariant-loop-count l = ◌≡◌ {A = ℕ × List ℕ} (l.at, l.out) (append (0, l.fn.out) (joined (figure_line l.t) (l.count-index + 1)))
