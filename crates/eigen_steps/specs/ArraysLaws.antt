-- What is lent to a run in parts, and what is put together from them afterwards. Laws only.
-- `readied`, `setting`, `laid_out`, `turned_out` and `set_out` are what functions of the code do on the way; no public promise cites them.
use Rattle.leaves.specs.declared.Bad.{Bad}
use Rattle.std.specs.Prelude.{◌≡◌, ◌++◌, ℕ, ◌+◌, ◌-◌, ◌*◌, ◌≤◌, length, take, drop, Option, is_some}
use Rattle.std.proofs.Math.Path.{ap}
use Rattle.std.proofs.Common.{◌∙◌, arith, length-drop, length-take-le}
use Rattle.std.proofs.Math.Bool.{cond}
use borrow.Rule.Slice.PartMut.{mid_of, put_mid, same_len_mid}
use Rattle.std.proofs.lemmas.List.{length-replicate}
use Rattle.grid.specs.Real.{Vec, zero64, zeros}
use Rattle.answers.specs.declared.Answer.{Answer}
use Rattle.eigen_tql2_pass.specs.declared.Run.{Run}
use Rattle.eigen_tql2.specs.LStartEnd.{State}
use Rattle.eigen_tql2.specs.Finish.{ql_finished}
use Rattle.eigen_tql2.specs.Tql2.{moved_up}
use Rattle.eigen_tred2_definition.specs.Tred2.{tred2}
use Rattle.eigen_symmetric_eigen.specs.Layout.{columns}
use Rattle.eigen_symmetric_eigen.specs.AfterTred2.{mark0}
use Rattle.eigen_symmetric_eigen.specs.ResultLaws.{laid}
use Rattle.eigen_symmetric_eigen.specs.PartsLaws.{outward, behind, behind_put, put_together}
use Rattle.eigen_tql2_step.specs.Advance.{step}
use Rattle.eigen_steps.specs.Arrays.{state_of, closed_up}

-- ---- where a run begins, and how it comes to stand in the arrays

-- after tred2: what mark 0 saw, and e moved up where that is nothing; of d and e as they are lent
unfoldable pub readied : ℕ → Vec → Vec × Vec → Option Bad × Vec × Vec × Vec
readied n a (d, e) =
    let (v, d, e) = tred2 n (columns n a, d, e) in
    cond (is_some (mark0 n v d e)) (mark0 n v d e, v, d, e) (mark0 n v d e, v, d, moved_up n e)

-- made ready, with work and result
unfoldable pub setting : ℕ → Vec → Option Bad × Vec × Vec
setting n a =
    let (b, v, d, e) = readied n a (zeros n, zeros n) in
    cond (is_some b) (b, zeros n, zeros (n + n * n)) (b, e, d ++ v)

-- the run, work and result
abbrev pub laid_out : State → Run × Vec × Vec
laid_out (r, v, d, e) = (r, e, d ++ v)

-- ---- what the code does with d in an array of its own

-- of (run, v, d, e), to (answer, v, d, e), the vectors row by row where that is done
unfoldable pub turned_out : ℕ → State → Answer × Vec × Vec × Vec
turned_out n x = outward n (ql_finished n x)

-- work and result, whose back holds v, after a start with d: where mark 0 saw something all is filled
unfoldable pub set_out : Option Bad → Vec → Vec → Vec → Option Bad × Vec × Vec
set_out b d work result = cond (is_some b) (b, zeros (length work), zeros (length result)) (b, work, d ++ drop (length d) result)

-- ---- the parts: D is the room for d, R the result, W work

pub front_long : (n : ℕ) → n ≤ 256 → length (take n (zeros 256)) ≡ n
front_long n h = length-take-le n (zeros 256) (omega (arith, length-replicate 256 zero64))

pub behind_long : (n : ℕ) (R : Vec) → length R ≡ n + n * n → length (mid_of n (length R - n) R) ≡ n * n
behind_long n R h =
    let f : n ≤ length R = omega arith in
    ap length (behind n R f) ∙ length-drop n R ∙ omega arith

module _ (n : ℕ) (R W D v d : Vec) (room : length R ≡ n + n * n) (lv : length v ≡ length (mid_of n (length R - n) R)) (ld : length d ≡ n) where
  fits_behind : n ≤ length R
  fits_behind = omega (arith, room)

  back : drop n (put_mid n (length R - n) R v) ≡ v
  back = behind_put n R v fits_behind

  pub whole_long : length (put_mid n (length R - n) R v) ≡ n + n * n
  whole_long = same_len_mid n (length R - n) R v lv ∙ room

  pub front_fits : length d ≤ length (put_mid n (length R - n) R v)
  front_fits = omega (arith, ld, whole_long)

  together : d ++ drop (length d) (put_mid n (length R - n) R v) ≡ d ++ v
  together = ap (◌++◌ d) (ap (λ (k : ℕ). drop k (put_mid n (length R - n) R v)) ld ∙ back)

  -- a start
  pub setting_whole : (a e : Vec) (b : Option Bad) (q : Option Bad × Vec × Vec) → D ≡ zeros n → W ≡ zeros n → length e ≡ n
      → ◌≡◌ {A = Option Bad × Vec × Vec × Vec} (b, v, d, e) (readied n a (D, W))
      → q ≡ set_out b d e (put_mid n (length R - n) R v) → q ≡ setting n a
  unfolding setting set_out
  setting_whole a e b q cd cw le s g =
      let f : Option Bad × Vec × Vec × Vec → Option Bad × Vec × Vec = λ y. cond (is_some y.0) (y.0, zeros n, zeros (n + n * n)) (y.0, y.3, y.2 ++ y.1) in
      let p : set_out b d e (put_mid n (length R - n) R v) ≡ f (b, v, d, e) = λ i. cond (is_some b) (b, zeros (le i), zeros (whole_long i)) (b, e, together i) in
      g ∙ p ∙ ap f (s ∙ (λ i. readied n a (cd i, cw i)))

  -- a step
  pub moved_whole : (limit edition : ℕ) (r t : Run) (e q : Vec) → D ≡ take n R
      → ◌≡◌ {A = State} (t, v, d, e) (step n limit edition (r, mid_of n (length R - n) R, D, W))
      → q ≡ d ++ drop (length d) (put_mid n (length R - n) R v) → (t, e, q) ≡ laid_out (step n limit edition (state_of n r W R))
  moved_whole limit edition r t e q c s g =
      (λ i. (t, e, (g ∙ together) i)) ∙ ap laid_out (s ∙ (λ i. step n limit edition (r, behind n R fits_behind i, c i, W)))

  -- a finish
  pub closed_whole : (r : Run) (x : Answer) (q : Answer × Vec × Vec) → D ≡ take n R → length W ≡ n
      → ((e : Vec) → ◌≡◌ {A = Answer × Vec × Vec × Vec} (x, v, d, e) (turned_out n (r, mid_of n (length R - n) R, D, e)))
      → q ≡ laid x d W (put_mid n (length R - n) R v) → q ≡ closed_up n r W R
  unfolding closed_up turned_out
  closed_whole r x q c lw s g =
      g ∙ put_together n (ql_finished n (state_of n r W R)) x v d W W (put_mid n (length R - n) R v) ld lw whole_long back
      (s W ∙ (λ i. outward n (ql_finished n (r, behind n R fits_behind i, c i, W))))
