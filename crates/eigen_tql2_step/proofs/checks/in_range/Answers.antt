use Prim.Native.Nat.{◌+◌, ◌*◌}
use native.Mathlib.Omega.{arith}
use borrow.Author.Tests.{lt-leb, le-leb, lt-ltb, le-ltb, eq-eqb, ne_eqb, not-false}
use Rattle.answers.specs.AnswersLaws.{product_le}
use Rattle.answers.specs.Checks.{limit_good, edition_good}
use Rattle.eigen_tql2_step.specs.Checks.{in_range}
use Rattle.eigen_tql2_step.specs.CheckLaws.{limit_within, holds, fails}
use Rattle.std.proofs.Common.{ap, not}
use Rattle.eigen_tql2_step.proofs.checks.in_range.Goals as goal
use Rattle.eigen_tql2_step.proofs.checks.in_range.Goals.{then-n-lt1-via-then-n-lt1, then-n-lt1-via-else-n-lt1+then-n-gt-LARGEST, then-n-lt1-via-else-n-lt1+else-n-gt-LARGEST+then-not-limit_good, then-n-lt1-via-else-n-lt1+else-n-gt-LARGEST+else-not-limit_good+then-not-edition_good, then-n-lt1-via-else-n-lt1+else-n-gt-LARGEST+else-not-limit_good+else-not-edition_good+then-r-n, then-n-lt1-via-else-n-lt1+else-n-gt-LARGEST+else-not-limit_good+else-not-edition_good+else-r-n+then-r-n-2, then-n-lt1-via-else-n-lt1+else-n-gt-LARGEST+else-not-limit_good+else-not-edition_good+else-r-n+else-r-n-2+then-r-limit, then-n-lt1-via-else-n-lt1+else-n-gt-LARGEST+else-not-limit_good+else-not-edition_good+else-r-n+else-r-n-2+else-r-limit+then-r, then-n-lt1-via-else-n-lt1+else-n-gt-LARGEST+else-not-limit_good+else-not-edition_good+else-r-n+else-r-n-2+else-r-limit+else-r+then-r-limit-2, then-n-lt1-via-else-n-lt1+else-n-gt-LARGEST+else-not-limit_good+else-not-edition_good+else-r-n+else-r-n-2+else-r-limit+else-r+else-r-limit-2+then-r-ne0}

pub overflow_mul-r : goal.overflow_mul-r
overflow_mul-r c = let k = limit_within c.args.limit c.limit_good.ensures (not-false _ (ap not c.if-not-limit_good.false)) in omega (arith, k, product_le c.args.r.l c.args.limit (omega arith) (omega (arith, k)))

pub overflow_add-r : goal.overflow_add-r
overflow_add-r c = let k = limit_within c.args.limit c.limit_good.ensures (not-false _ (ap not c.if-not-limit_good.false)) in omega (arith, k, product_le c.args.r.l c.args.limit (omega arith) (omega (arith, k)))

pub returns-then-n-lt1 : goal.returns-then-n-lt1
unfolding in_range
returns-then-n-lt1 c = elim c.then-n-lt1.branch [
  | then-n-lt1-via-then-n-lt1 w ↦ rw (lt-leb 1 c.args.n w.if-n-lt1.true)
  | then-n-lt1-via-else-n-lt1+then-n-gt-LARGEST w ↦ rw (le-leb 1 c.args.n w.if-n-lt1.false, lt-leb c.args.n 256 w.if-n-gt-LARGEST.true)
  | then-n-lt1-via-else-n-lt1+else-n-gt-LARGEST+then-not-limit_good w ↦ rw (le-leb 1 c.args.n w.if-n-lt1.false, le-leb c.args.n 256 w.if-n-gt-LARGEST.false, fails (limit_good c.args.limit) w.limit_good.ensures (ap not w.if-not-limit_good.true))
  | then-n-lt1-via-else-n-lt1+else-n-gt-LARGEST+else-not-limit_good+then-not-edition_good w ↦ rw (le-leb 1 c.args.n w.if-n-lt1.false, le-leb c.args.n 256 w.if-n-gt-LARGEST.false, holds (limit_good c.args.limit) w.limit_good.ensures (ap not w.if-not-limit_good.false), fails (edition_good c.args.edition) w.edition_good.ensures (ap not w.if-not-edition_good.true))
  | then-n-lt1-via-else-n-lt1+else-n-gt-LARGEST+else-not-limit_good+else-not-edition_good+then-r-n w ↦ rw (le-leb 1 c.args.n w.if-n-lt1.false, le-leb c.args.n 256 w.if-n-gt-LARGEST.false, holds (limit_good c.args.limit) w.limit_good.ensures (ap not w.if-not-limit_good.false), holds (edition_good c.args.edition) w.edition_good.ensures (ap not w.if-not-edition_good.false), lt-leb c.args.r.l c.args.n w.if-r-n.true)
  | then-n-lt1-via-else-n-lt1+else-n-gt-LARGEST+else-not-limit_good+else-not-edition_good+else-r-n+then-r-n-2 w ↦ rw (le-leb 1 c.args.n w.if-n-lt1.false, le-leb c.args.n 256 w.if-n-gt-LARGEST.false, holds (limit_good c.args.limit) w.limit_good.ensures (ap not w.if-not-limit_good.false), holds (edition_good c.args.edition) w.edition_good.ensures (ap not w.if-not-edition_good.false), le-leb c.args.r.l c.args.n w.if-r-n.false, le-ltb c.args.r.m c.args.n w.if-r-n-2.true)
  | then-n-lt1-via-else-n-lt1+else-n-gt-LARGEST+else-not-limit_good+else-not-edition_good+else-r-n+else-r-n-2+then-r-limit w ↦ rw (le-leb 1 c.args.n w.if-n-lt1.false, le-leb c.args.n 256 w.if-n-gt-LARGEST.false, holds (limit_good c.args.limit) w.limit_good.ensures (ap not w.if-not-limit_good.false), holds (edition_good c.args.edition) w.edition_good.ensures (ap not w.if-not-edition_good.false), le-leb c.args.r.l c.args.n w.if-r-n.false, lt-ltb c.args.r.m c.args.n w.if-r-n-2.false, le-ltb c.args.r.passes c.args.limit w.if-r-limit.true)
  | then-n-lt1-via-else-n-lt1+else-n-gt-LARGEST+else-not-limit_good+else-not-edition_good+else-r-n+else-r-n-2+else-r-limit+then-r w ↦ rw (le-leb 1 c.args.n w.if-n-lt1.false, le-leb c.args.n 256 w.if-n-gt-LARGEST.false, holds (limit_good c.args.limit) w.limit_good.ensures (ap not w.if-not-limit_good.false), holds (edition_good c.args.edition) w.edition_good.ensures (ap not w.if-not-edition_good.false), le-leb c.args.r.l c.args.n w.if-r-n.false, lt-ltb c.args.r.m c.args.n w.if-r-n-2.false, lt-ltb c.args.r.passes c.args.limit w.if-r-limit.false, lt-leb c.args.r.passes c.args.r.count w.if-r.true)
  | then-n-lt1-via-else-n-lt1+else-n-gt-LARGEST+else-not-limit_good+else-not-edition_good+else-r-n+else-r-n-2+else-r-limit+else-r+then-r-limit-2 w ↦ rw (le-leb 1 c.args.n w.if-n-lt1.false, le-leb c.args.n 256 w.if-n-gt-LARGEST.false, holds (limit_good c.args.limit) w.limit_good.ensures (ap not w.if-not-limit_good.false), holds (edition_good c.args.edition) w.edition_good.ensures (ap not w.if-not-edition_good.false), le-leb c.args.r.l c.args.n w.if-r-n.false, lt-ltb c.args.r.m c.args.n w.if-r-n-2.false, lt-ltb c.args.r.passes c.args.limit w.if-r-limit.false, le-leb c.args.r.passes c.args.r.count w.if-r.false, lt-leb c.args.r.count (c.args.r.l * c.args.limit + c.args.r.passes) w.if-r-limit-2.true)
  | then-n-lt1-via-else-n-lt1+else-n-gt-LARGEST+else-not-limit_good+else-not-edition_good+else-r-n+else-r-n-2+else-r-limit+else-r+else-r-limit-2+then-r-ne0 w ↦ rw (le-leb 1 c.args.n w.if-n-lt1.false, le-leb c.args.n 256 w.if-n-gt-LARGEST.false, holds (limit_good c.args.limit) w.limit_good.ensures (ap not w.if-not-limit_good.false), holds (edition_good c.args.edition) w.edition_good.ensures (ap not w.if-not-edition_good.false), le-leb c.args.r.l c.args.n w.if-r-n.false, lt-ltb c.args.r.m c.args.n w.if-r-n-2.false, lt-ltb c.args.r.passes c.args.limit w.if-r-limit.false, le-leb c.args.r.passes c.args.r.count w.if-r.false, le-leb c.args.r.count (c.args.r.l * c.args.limit + c.args.r.passes) w.if-r-limit-2.false, ne_eqb c.args.r.index 0 w.if-r-ne0.true)
]

pub returns-then-r-eq0 : goal.returns-then-r-eq0
unfolding in_range
returns-then-r-eq0 c = rw (le-leb 1 c.args.n c.if-n-lt1.false, le-leb c.args.n 256 c.if-n-gt-LARGEST.false, holds (limit_good c.args.limit) c.limit_good.ensures (ap not c.if-not-limit_good.false), holds (edition_good c.args.edition) c.edition_good.ensures (ap not c.if-not-edition_good.false), le-leb c.args.r.l c.args.n c.if-r-n.false, lt-ltb c.args.r.m c.args.n c.if-r-n-2.false, lt-ltb c.args.r.passes c.args.limit c.if-r-limit.false, le-leb c.args.r.passes c.args.r.count c.if-r.false, le-leb c.args.r.count (c.args.r.l * c.args.limit + c.args.r.passes) c.if-r-limit-2.false, eq-eqb c.args.r.index 0 c.if-r-ne0.false, eq-eqb c.args.r.passes 0 c.if-r-eq0.true)

pub returns-else-r-eq0 : goal.returns-else-r-eq0
unfolding in_range
returns-else-r-eq0 c = rw (le-leb 1 c.args.n c.if-n-lt1.false, le-leb c.args.n 256 c.if-n-gt-LARGEST.false, holds (limit_good c.args.limit) c.limit_good.ensures (ap not c.if-not-limit_good.false), holds (edition_good c.args.edition) c.edition_good.ensures (ap not c.if-not-edition_good.false), le-leb c.args.r.l c.args.n c.if-r-n.false, lt-ltb c.args.r.m c.args.n c.if-r-n-2.false, lt-ltb c.args.r.passes c.args.limit c.if-r-limit.false, le-leb c.args.r.passes c.args.r.count c.if-r.false, le-leb c.args.r.count (c.args.r.l * c.args.limit + c.args.r.passes) c.if-r-limit-2.false, eq-eqb c.args.r.index 0 c.if-r-ne0.false, ne_eqb c.args.r.passes 0 c.if-r-eq0.false)
