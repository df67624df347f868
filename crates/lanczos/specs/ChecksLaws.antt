-- What the checks leave where they refuse nothing. Laws only.
use Rattle.std.specs.Prelude.{◌≡◌, refl, Bool, true, false, cond, not, ℕ, ◌+◌, ◌*◌, ◌<◌, ltb, eqb}
use Rattle.std.proofs.Common.{sym, ap, ◌∙◌, arith, ltb-false, eqb-true}
use Rattle.std.proofs.lemmas.Bool.{eqb-false}
use Rattle.answers.specs.Answers.{done, refused, passed}
use Rattle.answers.specs.declared.Answer.{Answer}
use Rattle.answers.specs.Checks.{limit_good, edition_good, lengths}
use Rattle.answers.specs.ChecksLaws.{limit_right, lengths_right}
use Rattle.lanczos.specs.FitsLaws.{Called, Fit}
use Rattle.lanczos.specs.Checks.{work_length, checks}

pub record Checked (n k limit edition a b work x : ℕ) : Type 0 where
  pub called : Called limit edition
  pub fit : Fit n k
  pub matrix : a ≡ n * n
  pub vector : b ≡ n
  pub works : work ≡ work_length n k
  pub answers : x ≡ k + k * n

pub checked : (n k limit edition a b work x : ℕ) {r : Answer} → r ≡ checks n k limit edition a b work x → r.answer ≡ 0 → Checked n k limit edition a b work x
unfolding checks
checked n k limit edition a b work x e h =
    go (ltb 256 n) refl (limit_good limit) refl (edition_good edition) refl (eqb n 0) refl (ltb n k) refl l (passed l) refl (eqb x (k + k * n)) refl
    (lengths_right a (n * n) b n work (work_length n k)) (ap (λ (y : Answer). y.answer) (sym e) ∙ h)
  where
    l : Answer
    l = lengths a (n * n) b n work (work_length n k)

    above : (n ≡ 0 → ⊥) → 0 < n
    above d = omega arith

    go : (p : Bool) → ltb 256 n ≡ p → (q : Bool) → limit_good limit ≡ q → (s : Bool) → edition_good edition ≡ s → (u : Bool) → eqb n 0 ≡ u → (v : Bool) → ltb n k ≡ v
        → (l : Answer) (w : Bool) → passed l ≡ w → (y : Bool) → eqb x (k + k * n) ≡ y → (l.answer ≡ 0 → (a ≡ n * n) × (b ≡ n) × (work ≡ work_length n k))
        → (cond p (refused 1 0) (cond (not q) (refused 2 0) (cond (not s) (refused 12 0) (cond u (refused 14 0) (cond v (refused 15 0) (cond w (cond y (done 0) (refused 6 3)) l)))))).answer ≡ 0
        → Checked n k limit edition a b work x
    go true e1 q e2 s e3 u e4 v e5 l w e6 y e7 t h = absurd (omega arith)
    go false e1 false e2 s e3 u e4 v e5 l w e6 y e7 t h = absurd (omega arith)
    go false e1 true e2 false e3 u e4 v e5 l w e6 y e7 t h = absurd (omega arith)
    go false e1 true e2 true e3 true e4 v e5 l w e6 y e7 t h = absurd (omega arith)
    go false e1 true e2 true e3 false e4 true e5 l w e6 y e7 t h = absurd (omega arith)
    go false e1 true e2 true e3 false e4 false e5 l false e6 y e7 t h = absurd (eqb-false l.answer 0 e6 h)
    go false e1 true e2 true e3 false e4 false e5 l true e6 false e7 t h = absurd (omega arith)
    go false e1 true e2 true e3 false e4 false e5 l true e6 true e7 t h =
        let z = t (eqb-true l.answer 0 e6) in
        let g = limit_right limit e2 in
        record {
          called = record { least = g.0; most = g.1; good = e3 };
          fit = record { some = above (eqb-false n 0 e4); size = ltb-false 256 n e1; pairs = ltb-false n k e5 };
          matrix = z.0;
          vector = z.1;
          works = z.2;
          answers = eqb-true x (k + k * n) e7;
        }
