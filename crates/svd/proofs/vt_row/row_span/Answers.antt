use mathlib.Core.Path.{◌∙◌}
use native.Mathlib.Omega.{arith}
use borrow.Author.Tests.{lt-ltb, le-ltb, lt-leb, le-leb, eq-eqb, ne_eqb}
use Rattle.svd.specs.VtRow.{row_span}
use Rattle.svd.specs.VtRowLaws.{row_fits}
use Rattle.svd.proofs.vt_row.row_span.Goals as goal
use Rattle.svd.proofs.vt_row.row_span.Goals.{then-m-gt-LARGEST-via-then-m-gt-LARGEST, then-m-gt-LARGEST-via-else-m-gt-LARGEST+then-n-gt-LARGEST, then-m-gt-LARGEST-via-else-m-gt-LARGEST+else-n-gt-LARGEST+then-has_vt-eq0}
use Rattle.svd.proofs.vt_row.row_span.Goals.{then-j-r-via-then-j-r, then-j-r-via-else-j-r+then-len-decomposition_length}

pub returns-then-m-gt-LARGEST : goal.returns-then-m-gt-LARGEST
unfolding row_span
returns-then-m-gt-LARGEST c = elim c.then-m-gt-LARGEST.branch [
  | then-m-gt-LARGEST-via-then-m-gt-LARGEST w ↦ record { value = rw (lt-leb _ _ w.if-m-gt-LARGEST.true); within = tt }
  | then-m-gt-LARGEST-via-else-m-gt-LARGEST+then-n-gt-LARGEST w ↦ record { value = rw (le-leb _ _ w.if-m-gt-LARGEST.false, lt-leb _ _ w.if-n-gt-LARGEST.true); within = tt }
  | then-m-gt-LARGEST-via-else-m-gt-LARGEST+else-n-gt-LARGEST+then-has_vt-eq0 w ↦ record { value = rw (le-leb _ _ w.if-m-gt-LARGEST.false, le-leb _ _ w.if-n-gt-LARGEST.false, eq-eqb _ _ w.if-has_vt-eq0.true); within = tt }
]

pub returns-then-j-r : goal.returns-then-j-r
unfolding row_span
returns-then-j-r c = elim c.then-j-r.branch [
  | then-j-r-via-then-j-r w ↦ record { value = rw (le-leb _ _ c.if-m-gt-LARGEST.false, le-leb _ _ c.if-n-gt-LARGEST.false, ne_eqb _ _ c.if-has_vt-eq0.false, ← c.least-r.ensures, le-ltb c.args.j c.least-r.result w.if-j-r.true); within = tt }
  | then-j-r-via-else-j-r+then-len-decomposition_length w ↦ record { value = rw (le-leb _ _ c.if-m-gt-LARGEST.false, le-leb _ _ c.if-n-gt-LARGEST.false, ne_eqb _ _ c.if-has_vt-eq0.false, ← c.least-r.ensures, lt-ltb _ _ w.if-j-r.false, ← w.decomposition_length.ensures, ne_eqb _ _ w.if-len-decomposition_length.true); within = tt }
]

pub overflow_add-a : goal.overflow_add-a
overflow_add-a c = omega (arith, row_fits c.args.len c.args.m c.args.n c.args.has_u c.args.has_vt c.args.j c.least-r.result c.present.result c.least-r.ensures c.present.ensures c.if-has_vt-eq0.false c.if-j-r.false (c.if-len-decomposition_length.false ∙ c.decomposition_length.ensures), c.ranges)

pub returns : goal.returns
unfolding row_span
returns c = record { value = rw (le-leb _ _ c.if-m-gt-LARGEST.false, le-leb _ _ c.if-n-gt-LARGEST.false, ne_eqb _ _ c.if-has_vt-eq0.false, ← c.least-r.ensures, lt-ltb _ _ c.if-j-r.false, ← c.decomposition_length.ensures, eq-eqb _ _ c.if-len-decomposition_length.false, ← c.present.ensures); within = (omega arith, row_fits c.args.len c.args.m c.args.n c.args.has_u c.args.has_vt c.args.j c.least-r.result c.present.result c.least-r.ensures c.present.ensures c.if-has_vt-eq0.false c.if-j-r.false (c.if-len-decomposition_length.false ∙ c.decomposition_length.ensures)) }
