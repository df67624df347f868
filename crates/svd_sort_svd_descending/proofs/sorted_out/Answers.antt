use mathlib.Core.Path.{◌≡◌, ◌∙◌}
use Prim.Native.Nat.{ℕ, ◌≤◌}
use native.Mathlib.Omega.{arith}
use mathlib.Core.List.{List}
use lib.Ieee.{Float}
use lib.ListN.{replicate}
use Rattle.grid.specs.Real.{Vec}
use Rattle.answers.specs.Answers.{least}
use Rattle.answers.specs.AnswersLaws.{least_le}
use Rattle.svd_sort_svd_descending.specs.Rank.{Below, noted, noted_below}
use Rattle.svd_sort_svd_descending.specs.Result.{sorted_out}
use Rattle.svd_sort_svd_descending.specs.OutLaws.{out_of, out_sorted}
use Rattle.svd_sort_svd_descending.specs.ResultSizes.{Checked, spaces, values_out_lem, left_out, right_out}
use Rattle.svd_sort_svd_descending.proofs.sorted_out.Goals as goal

named : (s : ℕ → Float) (m n r : ℕ) (o : List ℕ) → m ≤ 256 → n ≤ 256 → r ≡ least m n → o ≡ noted s r (replicate 256 0) → Below (least m n) o
named s m n r o p q e g = rw (g, e) (noted_below s (least m n) (least_le m n 256 p q))

whole : (m n want_u want_vt : ℕ) (w res : Vec) {z : Vec} → Checked m n want_u want_vt w res → z ≡ out_of m n want_u want_vt w res → z ≡ sorted_out m n want_u want_vt w
whole m n want_u want_vt w res c e = e ∙ out_sorted m n want_u want_vt w res (least_le m n 256 c.tall c.wide) c.results

pub overflow_mul-second : goal.overflow_mul-second
overflow_mul-second c = omega (arith, spaces c.args.m c.args.n c.args.want_u c.args.want_vt c.least-r.result c.longest.result c.args.w.now c.args.res.now c.requires c.least-r.ensures c.longest.ensures)

pub overflow_mul-values : goal.overflow_mul-values
overflow_mul-values c = omega (arith, spaces c.args.m c.args.n c.args.want_u c.args.want_vt c.least-r.result c.longest.result c.args.w.now c.args.res.now c.requires c.least-r.ensures c.longest.ensures)

pub overflow_add-values : goal.overflow_add-values
overflow_add-values c = omega (arith, spaces c.args.m c.args.n c.args.want_u c.args.want_vt c.least-r.result c.longest.result c.args.w.now c.args.res.now c.requires c.least-r.ensures c.longest.ensures)

pub note-requires : goal.note-requires
note-requires c = omega (arith, spaces c.args.m c.args.n c.args.want_u c.args.want_vt c.least-r.result c.longest.result c.args.w.now c.args.res.now c.requires c.least-r.ensures c.longest.ensures)

pub factor_out-requires : goal.factor_out-requires
factor_out-requires c = rw (c.least-r.ensures, c.longest.ensures) (values_out_lem c.args.m c.args.n c.args.want_u c.args.want_vt _ _ _ c.requires (named _ _ _ _ _ c.requires.tall c.requires.wide c.least-r.ensures c.note.ensures))

pub factor_out-requires-2 : goal.factor_out-requires-2
factor_out-requires-2 c = rw (c.present.ensures, c.offset-u_at.ensures, c.least-r.ensures, c.longest.ensures) (left_out c.args.m c.args.n c.args.want_u c.args.want_vt _ _ _ (record { tall = c.requires.tall; wide = c.requires.wide; works = c.requires.works; results = omega (arith, c.requires.results, c.factor_out.auto) }) (named _ _ _ _ _ c.requires.tall c.requires.wide c.least-r.ensures c.note.ensures))

pub overflow_mul-m : goal.overflow_mul-m
overflow_mul-m c = omega (arith, spaces c.args.m c.args.n c.args.want_u c.args.want_vt c.least-r.result c.longest.result c.args.w.now c.args.res.now c.requires c.least-r.ensures c.longest.ensures)

pub overflow_add-to : goal.overflow_add-to
overflow_add-to c = omega (arith, spaces c.args.m c.args.n c.args.want_u c.args.want_vt c.least-r.result c.longest.result c.args.w.now c.args.res.now c.requires c.least-r.ensures c.longest.ensures, c.present-2.ensures)

pub factor_out-requires-3 : goal.factor_out-requires-3
factor_out-requires-3 c = rw (c.present-3.ensures, c.present-2.ensures, c.offset-v_at.ensures, c.least-r.ensures, c.longest.ensures) (right_out c.args.m c.args.n c.args.want_u c.args.want_vt _ _ _ (record { tall = c.requires.tall; wide = c.requires.wide; works = c.requires.works; results = omega (arith, c.requires.results, c.factor_out.auto, c.factor_out-2.auto) }) (named _ _ _ _ _ c.requires.tall c.requires.wide c.least-r.ensures c.note.ensures))

pub returns : goal.returns
unfolding out_of
returns c = whole c.args.m c.args.n c.args.want_u c.args.want_vt c.args.w.now c.args.res.now c.requires (rw (← c.least-r.ensures, ← c.longest.ensures, ← c.note.ensures, ← c.factor_out.ensures, ← c.offset-u_at.ensures, ← c.present.ensures, ← c.factor_out-2.ensures, ← c.offset-v_at.ensures, ← c.present-2.ensures, ← c.present-3.ensures) c.factor_out-3.ensures)
