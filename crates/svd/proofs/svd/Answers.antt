use mathlib.Core.Path.{◌≡◌, ◌∙◌, sym, ap}
use Prim.Native.Nat.{ℕ}
use native.Mathlib.Omega.{arith}
use Rattle.std.specs.Prelude.{⊤, Result, Ok}
use Rattle.leaves.specs.Scan.{first_bad}
use Rattle.answers.specs.declared.Answer.{Answer}
use Rattle.answers.specs.declared.refusal.Refusal.{Refusal}
use Rattle.answers.specs.Refusals.{verdict}
use Rattle.answers.proofs.VerdictLaws.{on_ok, on_err, fails}
use Rattle.svd.specs.Svd.{checks, svd}
use Rattle.grid.specs.Real.{zeros}
use Rattle.svd.specs.LoadedLaws.{ran_is}
use Rattle.svd.specs.Sizes.{Passed, checks_passed}
use Rattle.svd.proofs.svd.Goals as goal

passed_checks : {m n want_u want_vt limit a b c : ℕ} {x : Result ⊤ Refusal} {u : ⊤} → verdict x ≡ checks m n want_u want_vt limit a b c → x ≡ Ok u → Passed m n want_u want_vt limit a b c
passed_checks {m} {n} {want_u} {want_vt} {limit} {a} {b} {c} e o = checks_passed m n want_u want_vt limit a b c (ap (λ (x : Answer). x.answer) (on_ok e o))

pub returns-in-Err : goal.returns-in-Err
unfolding svd
returns-in-Err c = rw (on_err c.checks.ensures c.in-Err.is, fails c.in-Err.r, c.into.ensures)

pub returns-in-Some : goal.returns-in-Some
unfolding svd
returns-in-Some c =
    let found : first_bad c.args.matrix.now ≡ _ = sym c.first_bad.ensures ∙ c.in-Some.is in
    rw (on_ok c.checks.ensures c.in_default.is, found, c.into-in-Some.ensures, ← c.fill.ensures, ← c.fill-2.ensures)

pub run-requires : goal.run-requires
run-requires c =
    let p = passed_checks c.checks.ensures c.in_default.is in
    (p.few, p.matrix, record { tall = p.tall; wide = p.wide; works = omega (arith, p.work, c.fill.auto); results = omega (arith, p.result, c.fill-2.auto) })

pub returns : goal.returns
unfolding svd
returns c =
    let found : first_bad c.args.matrix.now ≡ _ = sym c.first_bad.ensures ∙ c.in_default-first_bad.is in
    rw (on_ok c.checks.ensures c.in_default.is, found, ← c.fill.ensures, ← c.fill-2.ensures)
    (c.run.ensures
    ∙ ran_is c.args.m c.args.n c.args.want_u c.args.want_vt c.args.limit c.args.matrix.now _ _ (c.fill.ensures ∙ ap zeros (passed_checks c.checks.ensures c.in_default.is).work))
