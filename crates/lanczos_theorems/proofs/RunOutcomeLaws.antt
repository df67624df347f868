-- What a call of `lanczos` gives is what `Says` tells of its steps; so its index, its answers and its pairs. Laws only.
use Rattle.leaves.specs.declared.Bad.{Bad}
use Rattle.std.specs.Prelude.{◌≡◌, ◌↔◌, not, ◌++◌, ltb, eqb, Float, Option, Some, None, is_some}
use Rattle.std.proofs.Math.Path.{refl, ap, subst}
use Rattle.std.proofs.Common.{sym, ◌∙◌, inl, inr, ⊎_elim, true≢false, arith, ltb-false, ltb-true, eqb-true, eq-eqb, ne_eqb}
use Rattle.std.proofs.Math.Bool.{Bool, true, false, cond}
use Prim.Native.Nat.{ℕ, zero, suc, ◌+◌, ◌*◌, ◌<◌, ◌≤◌}
use Rattle.std.proofs.Math.Numerals.{add-one}
use Rattle.std.proofs.Math.Decide.{ℕ_discrete, dec_lt}
use Rattle.std.proofs.lemmas.Bool.{eqb-false}
use Rattle.std.specs.Float.Ieee.{lt}
use lib.ListN.{length, length-replicate, take, drop}
use Rattle.grid.specs.LoopLaws.{upto_none, upto_more}
use Rattle.grid.specs.Real.{Vec, zero64, zeros, at}
use Rattle.leaves.specs.Leaf.{is_finite}
use Rattle.leaves.specs.Scan.{class_of, first_bad, bad_at}
use Rattle.leaves.specs.Finite.{Finite}
use Rattle.leaves.specs.ScanLaws.{scan_first, first_scan, first_bad_none, first_bad_fine, class_cases, first_class}
use Rattle.answers.specs.Answers.{answered, done, refused, passed, refusal7, marked, least}
use Rattle.answers.specs.Index.{Class, AtMark}
use Rattle.answers.specs.declared.Answer.{Answer}
use Rattle.answers.specs.Checks.{limit_good, edition_good, lengths}
use Rattle.answers.specs.ChecksLaws.{limit_right}
use Rattle.answers.proofs.EditionLaws.{edition_right}
use Rattle.gram_schmidt.specs.Gram.{norm}
use Rattle.matvec.specs.Matvec.{product}
use Rattle.lanczos_steps.specs.Reorthogonalise.{twice}
use Rattle.lanczos_steps.specs.StepEnd.{least_beta, Went, went, step_ended}
use Rattle.lanczos_steps.specs.StartVector.{started}
use Rattle.lanczos_steps.specs.Krylov.{LanczosState, recurred, step, steps}
use Rattle.lanczos_steps.specs.KrylovLaws.{step_if_on, Both, both_zeros, steps_fine}
use Rattle.lanczos_pairs.specs.LeadingPairs.{looked, selected}
use Rattle.lanczos_pairs.specs.TridiagonalEigen.{inward}
use Rattle.lanczos_pairs.specs.InPlaceLaws.{own_tri}
use Rattle.eigen_theorems.specs.Outcome.{RunAnswer}
use Rattle.eigen_theorems.specs.Outcome as Outcome
use Rattle.eigen_theorems.proofs.OutcomeLaws as OutcomeLaws
use Rattle.eigen_theorems.proofs.Taken.{says_ran}
use Rattle.eigen_theorems.proofs.Index.{index_points, index_zero}
use Rattle.lanczos.specs.Run.{none, paired, solved, ran}
use Rattle.lanczos.specs.Checks.{size, work_length, checks}
use Rattle.lanczos.specs.Lanczos.{lanczos}
use Rattle.lanczos_theorems.specs.Early.{Outcome, Promised}
use Rattle.lanczos_theorems.specs.RunOutcome.{state_at, alpha_at, beta_at, Goes, Clean, Stepped, all, early, matrix_of, inner_of, found_of, Says, at_number, at_norm, at_alpha, at_beta, inner, at_answer, found, Points, the_norm, the_alpha, the_beta, the_inner, the_answer, LanczosAnswer, Fit}

-- ---- the steps

module _ (n k : ℕ) (a b : Vec) where
  -- how they stand after j turns
  data Stands (j : ℕ) (x : LanczosState) : Type 0 where
    goes : x.0.on ≡ true → x.0.said ≡ done 0 → x.0.dim ≡ j → Clean n k a b j → Stands j x
    over : x.0.on ≡ false → x.0.said ≡ done 0 → (i : ℕ) → i < j → x.0.dim ≡ i + 1 → Clean n k a b i → is_finite (alpha_at n k a b i) ≡ true → is_finite (beta_at n k a b i) ≡ true → lt least_beta (beta_at n k a b i) ≡ false → Stands j x
    bad_alpha : x.0.on ≡ false → (i : ℕ) → i < j → Clean n k a b i → is_finite (alpha_at n k a b i) ≡ false → x.0.said ≡ answered (class_of (alpha_at n k a b i)) 4 i 0 → Stands j x
    bad_beta : x.0.on ≡ false → (i : ℕ) → i < j → Clean n k a b i → is_finite (alpha_at n k a b i) ≡ true → is_finite (beta_at n k a b i) ≡ false → x.0.said ≡ answered (class_of (beta_at n k a b i)) 5 i 0 → Stands j x

  -- one that has stopped stays so
  later : (j : ℕ) (x : LanczosState) → x.0.on ≡ false → Stands j x → Stands (j + 1) x
  later j x f (goes o s d c) = absurd (true≢false (sym o ∙ f))
  later j x f (over o s i l d c p q r) = over o s i (omega arith) d c p q r
  later j x f (bad_alpha o i l c p s) = bad_alpha o i (omega arith) c p s
  later j x f (bad_beta o i l c p q s) = bad_beta o i (omega arith) c p q s

  one_more : (j : ℕ) → Clean n k a b j → Goes n k a b j → Clean n k a b (j + 1)
  one_more j c g i l = elim (ℕ_discrete i j) [
    | yes e ↦ subst (Goes n k a b) (sym e) g
    | no d ↦ c i (omega arith)
  ]

  abbrev Now : ℕ → LanczosState
  Now j = state_at n k a b j

  abbrev left : ℕ → Vec
  left j = twice n j (Now j).1 (Now j).4 (recurred n j (alpha_at n k a b j) (Now j).1 (Now j).3 (Now j).4 (product n a (Now j).4))

  -- the step after j turns, of a run that goes on
  stepped_stands : (j : ℕ) → Clean n k a b j → Stands (j + 1) (step n a j (Now j).1 (Now j).2 (Now j).3 (Now j).4)
  unfolding step step_ended
  stepped_stands j c = go (is_finite (alpha_at n k a b j)) refl (is_finite (beta_at n k a b j)) refl (lt least_beta (beta_at n k a b j)) refl
    where
      end : Bool → Bool → Went × Vec × Vec
      end q r =
          cond q
          (cond r (went true (done 0) (j + 1), lib.ListN.set (Now j).3 j (beta_at n k a b j), Rattle.gram_schmidt.specs.Unit.over n (beta_at n k a b j) (left j)) (went false (done 0) (j + 1), (Now j).3, (Now j).4))
          (went false (answered (class_of (beta_at n k a b j)) 5 j 0) (j + 1), (Now j).3, (Now j).4)

      state : Bool → Bool → Bool → LanczosState
      state p q r =
          cond p
          ((end q r).0, Rattle.matvec.specs.Matvec.replaced (j * n) (j * n + n) (Now j).4 (Now j).1, lib.ListN.set (Now j).2 j (alpha_at n k a b j), (end q r).1, (end q r).2)
          (went false (answered (class_of (alpha_at n k a b j)) 4 j 0) (j + 1), (Now j).1, (Now j).2, (Now j).3, (Now j).4)

      go : (p : Bool) → is_finite (alpha_at n k a b j) ≡ p → (q : Bool) → is_finite (beta_at n k a b j) ≡ q → (r : Bool) → lt least_beta (beta_at n k a b j) ≡ r → Stands (j + 1) (state p q r)
      go false e q f r g = bad_alpha refl j (omega arith) c e refl
      go true e false f r g = bad_beta refl j (omega arith) c e f refl
      go true e true f false g = over refl refl j (omega arith) refl c e f g
      go true e true f true g = goes refl refl refl (one_more j c (record { alpha = e; beta = f; wide = g }))

  next_stands : (j : ℕ) → Stands j (Now j) → Stands (j + 1) (step_if_on n a j (Now j))
  next_stands j h = go (Now j).0.on refl h
    where
      go : (o : Bool) → (Now j).0.on ≡ o → Stands j (Now j) → Stands (j + 1) (cond o (step n a j (Now j).1 (Now j).2 (Now j).3 (Now j).4) (Now j))
      go true e (goes o s d c) = stepped_stands j c
      go true e (over o s i l d c p q r) = absurd (true≢false (sym e ∙ o))
      go true e (bad_alpha o i l c p s) = absurd (true≢false (sym e ∙ o))
      go true e (bad_beta o i l c p q s) = absurd (true≢false (sym e ∙ o))
      go false e h = later j (Now j) e h

  stands : (j : ℕ) → Stands j (Now j)
  unfolding steps
  stands zero = subst (Stands 0) (sym (upto_none (step_if_on n a) 0 _)) (goes refl refl refl (λ i l. absurd (omega arith)))
  stands (suc j) = rw (← add-one j) (subst (Stands (j + 1)) (sym (upto_more (step_if_on n a) 0 j _ (omega arith))) (next_stands j (stands j)))

-- ---- the checks

either : {A : Type 0} (P : A → Type 0) (b : Bool) {x y : A} → P x → P y → P (cond b x y)
either P true p q = p
either P false p q = q

-- what is so of what the checks answer: one of the refusals, at no mark, with the index 0
record Checked (x : Answer) : Type 0 where
  one : LanczosAnswer x.answer
  unmarked : AtMark x → ⊥
  none : x.index ≡ 0

checks_checked : (n k limit edition a b work x : ℕ) → Checked (checks n k limit edition a b work x)
unfolding checks lengths
checks_checked n k limit edition a b work x =
    either Checked (ltb 256 n) (record { one = inr (inl refl); unmarked = ⊎_elim (λ e. omega arith) (λ e. omega arith); none = refl })
    (either Checked (not (limit_good limit)) (record { one = inr (inr (inl refl)); unmarked = ⊎_elim (λ e. omega arith) (λ e. omega arith); none = refl })
    (either Checked (not (edition_good edition)) (record { one = inr (inr (inr (inr (inr (inr (inr (inr (inl refl)))))))); unmarked = ⊎_elim (λ e. omega arith) (λ e. omega arith); none = refl })
    (either Checked (eqb n 0) (record { one = inr (inr (inr (inr (inr (inr (inr (inr (inr (inl refl))))))))); unmarked = ⊎_elim (λ e. omega arith) (λ e. omega arith); none = refl })
    (either Checked (ltb n k) (record { one = inr (inr (inr (inr (inr (inr (inr (inr (inr (inr refl))))))))); unmarked = ⊎_elim (λ e. omega arith) (λ e. omega arith); none = refl })
    (either Checked (passed first) (either Checked (eqb x (k + k * n)) ok (six 3)) (either Checked (eqb a (n * n)) (either Checked (eqb b n) (either Checked (eqb work (work_length n k)) ok (six 2)) (six 1)) (six 0)))))))
  where
    first : Answer
    first = lengths a (n * n) b n work (work_length n k)

    ok : Checked (done 0)
    ok = record { one = inl refl; unmarked = ⊎_elim (λ e. omega arith) (λ e. omega arith); none = refl }

    six : (p : ℕ) → Checked (refused 6 p)
    six p = record { one = inr (inr (inr (inl refl))); unmarked = ⊎_elim (λ e. omega arith) (λ e. omega arith); none = refl }

pub checks_fit : (n k limit edition a b work x : ℕ) → passed (checks n k limit edition a b work x) ≡ true → Fit n k limit edition
unfolding checks
checks_fit n k limit edition a b work x = go (ltb 256 n) refl (limit_good limit) refl (edition_good edition) refl (eqb n 0) refl (ltb n k) refl
  where
    l : Answer
    l = lengths a (n * n) b n work (work_length n k)

    above : (n ≡ 0 → ⊥) → 0 < n
    above d = omega arith

    go : (p : Bool) → ltb 256 n ≡ p → (q : Bool) → limit_good limit ≡ q → (r : Bool) → edition_good edition ≡ r → (s : Bool) → eqb n 0 ≡ s → (t : Bool) → ltb n k ≡ t
        → passed (cond p (refused 1 0) (cond (not q) (refused 2 0) (cond (not r) (refused 12 0) (cond s (refused 14 0) (cond t (refused 15 0) (cond (passed l) (cond (eqb x (k + k * n)) (done 0) (refused 6 3)) l)))))) ≡ true
        → Fit n k limit edition
    go true e q f r g s h t i z = absurd (true≢false (sym z))
    go false e false f r g s h t i z = absurd (true≢false (sym z))
    go false e true f false g s h t i z = absurd (true≢false (sym z))
    go false e true f true g true h t i z = absurd (true≢false (sym z))
    go false e true f true g false h true i z = absurd (true≢false (sym z))
    go false e true f true g false h false i z =
        let m = limit_right limit f in
        record { small = ltb-false 256 n e; some = above (eqb-false n 0 h); few = ltb-false n k i; lower = m.0; upper = m.1; choice = edition_right edition g }

size_most : (n k : ℕ) → size n k ≤ n
unfolding size least
size_most n k = go (ltb (2 * k + 20) n) refl
  where
    go : (b : Bool) → ltb (2 * k + 20) n ≡ b → cond b (2 * k + 20) n ≤ n
    go true e = omega (arith, ltb-true (2 * k + 20) n e)
    go false e = omega arith

class_not : (x : Float) → eqb (class_of x) 0 ≡ false
class_not x = ⊎_elim (λ (e : class_of x ≡ 8). ap (λ (j : ℕ). eqb j 0) e) (λ (e : class_of x ≡ 10). ap (λ (j : ℕ). eqb j 0) e) (class_cases x)

-- ---- the run

module _ (n k limit edition : ℕ) (a b : Vec) where
  abbrev Last : LanczosState
  Last = state_at n k a b (size n k)

  -- the alphas and the betas are finite
  both : Both Last.2 Last.3
  both = steps_fine n (size n k) a (zeros (size n k * n)) (zeros 256) (zeros 256) (started n (norm n b) b) both_zeros

  -- so the inner call takes its matrix
  inner_taken : Fit n k limit edition → (m : ℕ) → m ≤ n → Outcome.Taken m limit edition (matrix_of n k a b m) (zeros m) (zeros (m + m * m))
  inner_taken f m l =
      let h = own_tri m Last.2 Last.3 (record { alphas = λ i p. both.alphas.fine i (omega (arith, f.small)); betas = λ i p. both.betas.fine i (omega (arith, f.small)) }) in
      record {
        fit = record { small = omega (arith, f.small); least = f.lower; most = f.upper; choice = f.choice; square = h.long; works = length-replicate m zero64; room = length-replicate (m + m * m) zero64 };
        finite = λ i j p q. h.fine i j q (omega arith);
      }

  -- and answers 0, 8, 9 or 10
  pub inner_ran : Fit n k limit edition → (m : ℕ) → m ≤ n → RunAnswer (inner_of n k limit edition a b m).0
  unfolding inward
  inner_ran f m l = says_ran m limit edition (matrix_of n k a b m) _ (OutcomeLaws.says m limit edition (matrix_of n k a b m) (zeros m) (zeros (m + m * m)) (inner_taken f m l))

  abbrev RunGives : Answer × Vec → Type 0
  RunGives = Says n k limit edition a b

  module _ (fine : Finite (a ++ b)) (start : is_finite (norm n b) ≡ true) where
    paired_says : (m : ℕ) → m ≤ n → Stepped n k a b m → RunGives (paired n k m Last.1 (inner_of n k limit edition a b m))
    unfolding paired selected looked
    paired_says m l s = go (passed (inner_of n k limit edition a b m).0) refl
      where
        more : (inner_of n k limit edition a b m).0.answer ≡ 0 → (y : Option Bad) → first_bad (found_of n k limit edition a b m) ≡ y
            → RunGives (cond (is_some y) (marked 6 (inner_of n k limit edition a b m).0.count y, zeros (length (found_of n k limit edition a b m))) (answered 0 (least k m) 0 (inner_of n k limit edition a b m).0.count, found_of n k limit edition a b m))
        more z (Some bad) e = at_answer fine start m l s z (scan_first (at (found_of n k limit edition a b m)) (length (found_of n k limit edition a b m)) bad.index bad.class e)
        more z None e = found fine start m l s z (first_bad_none (found_of n k limit edition a b m) e)

        go : (t : Bool) → passed (inner_of n k limit edition a b m).0 ≡ t
            → RunGives (cond t (cond (is_some (first_bad (found_of n k limit edition a b m))) (marked 6 (inner_of n k limit edition a b m).0.count (first_bad (found_of n k limit edition a b m)), zeros (length (found_of n k limit edition a b m))) (answered 0 (least k m) 0 (inner_of n k limit edition a b m).0.count, found_of n k limit edition a b m)) (none n k (inner_of n k limit edition a b m).0))
        go true e = more (eqb-true _ 0 e) (first_bad (found_of n k limit edition a b m)) refl
        go false e = inner fine start m l s (eqb-false _ 0 e)

    solved_goes : Last.0.said ≡ done 0 → (m : ℕ) → Last.0.dim ≡ m → paired n k m Last.1 (inner_of n k limit edition a b m) ≡ solved n k limit edition Last
    unfolding solved
    solved_goes s m d =
        ap (λ (j : ℕ). paired n k j Last.1 (inward j limit edition Last.2 Last.3)) (sym d)
        ∙ ap (λ (y : Answer). cond (passed y) (paired n k Last.0.dim Last.1 (inward Last.0.dim limit edition Last.2 Last.3)) (none n k y)) (sym s)

    solved_stops : (y : Answer) → Last.0.said ≡ y → passed y ≡ false → none n k y ≡ solved n k limit edition Last
    unfolding solved
    solved_stops y s p =
        (λ i. cond (sym p i) (paired n k Last.0.dim Last.1 (inward Last.0.dim limit edition Last.2 Last.3)) (none n k y))
        ∙ ap (λ (y : Answer). cond (passed y) (paired n k Last.0.dim Last.1 (inward Last.0.dim limit edition Last.2 Last.3)) (none n k y)) (sym s)

    solved_says : RunGives (solved n k limit edition Last)
    solved_says = go (stands n k a b (size n k))
      where
        go : Stands n k a b (size n k) Last → RunGives (solved n k limit edition Last)
        go (goes o s d c) = subst RunGives (solved_goes s (size n k) d) (paired_says (size n k) (size_most n k) (all c))
        go (over o s i l d c p q r) = subst RunGives (solved_goes s (i + 1) d) (paired_says (i + 1) (omega (arith, size_most n k)) (early i l c p q r))
        go (bad_alpha o i l c p s) = subst RunGives (solved_stops _ s (class_not (alpha_at n k a b i))) (at_alpha fine start i l c p)
        go (bad_beta o i l c p q s) = subst RunGives (solved_stops _ s (class_not (beta_at n k a b i))) (at_beta fine start i l c p q)

  ran_says : Finite (a ++ b) → RunGives (ran n k limit edition a b)
  unfolding ran
  ran_says fine = go (is_finite (norm n b)) refl
    where
      go : (t : Bool) → is_finite (norm n b) ≡ t → RunGives (cond t (solved n k limit edition Last) (none n k (answered (class_of (norm n b)) 3 0 0)))
      go true e = solved_says fine e
      go false e = at_norm fine e

  run_says : RunGives (cond (passed (refusal7 (first_bad (a ++ b)))) (ran n k limit edition a b) (none n k (refusal7 (first_bad (a ++ b)))))
  run_says = go (first_bad (a ++ b)) refl
    where
      go : (y : Option Bad) → first_bad (a ++ b) ≡ y → RunGives (cond (passed (refusal7 y)) (ran n k limit edition a b) (none n k (refusal7 y)))
      go (Some bad) e = at_number (scan_first (at (a ++ b)) (length (a ++ b)) bad.index bad.class e)
      go None e = ran_says (first_bad_none (a ++ b) e)

  -- **lanczos_says**: a call that passes the checks gives what its steps say
  pub lanczos_says : (work x : Vec) → passed (checks n k limit edition (length a) (length b) (length work) (length x)) ≡ true
      → Says n k limit edition a b ((lanczos n k limit edition a b work x).0, (lanczos n k limit edition a b work x).2)
  unfolding lanczos
  lanczos_says work x h = rw h run_says

  -- ---- what that says of the four numbers

  says_points : (y : Answer × Vec) → Fit n k limit edition → RunGives y → AtMark y.0 → Points n k limit edition a b y.0
  unfolding inward
  says_points y f (at_number g) u = absurd (⊎_elim (λ e. omega arith) (λ e. omega arith) u)
  says_points y f (at_norm g e) u = the_norm e refl
  says_points y f (at_alpha g s j l c e) u = the_alpha l c e refl
  says_points y f (at_beta g s j l c e d) u = the_beta l c e d refl
  says_points y f (inner g s m l p d) u = the_inner m p (index_points m limit edition (matrix_of n k a b m) (zeros m) (zeros (m + m * m)) u)
  says_points y f (at_answer g s m l p z q) u = the_answer m p q
  says_points y f (found g s m l p z q) u = absurd (⊎_elim (λ e. omega arith) (λ e. omega arith) u)

  says_zero : (y : Answer × Vec) → RunGives y → (AtMark y.0 → ⊥) → y.0.index ≡ 0
  unfolding inward
  says_zero y (at_number g) u = refl
  says_zero y (at_norm g e) u = refl
  says_zero y (at_alpha g s j l c e) u = absurd (u (class_cases (alpha_at n k a b j)))
  says_zero y (at_beta g s j l c e d) u = absurd (u (class_cases (beta_at n k a b j)))
  says_zero y (inner g s m l p d) u = index_zero m limit edition (matrix_of n k a b m) (zeros m) (zeros (m + m * m)) u
  says_zero y (at_answer g s m l p z {i = i} {c = c} q) u = absurd (u (first_class (at (found_of n k limit edition a b m)) (length (found_of n k limit edition a b m)) i c q))
  says_zero y (found g s m l p z q) u = refl

  class_answer : (x : ℕ) → Class x → LanczosAnswer x
  class_answer x = ⊎_elim (λ e. inr (inr (inr (inr (inr (inl e)))))) (λ e. inr (inr (inr (inr (inr (inr (inr (inl e))))))))

  says_answer : (y : Answer × Vec) → Fit n k limit edition → RunGives y → LanczosAnswer y.0.answer
  says_answer y f (at_number g) = inr (inr (inr (inr (inl refl))))
  says_answer y f (at_norm g e) = class_answer _ (class_cases (norm n b))
  says_answer y f (at_alpha g s j l c e) = class_answer _ (class_cases (alpha_at n k a b j))
  says_answer y f (at_beta g s j l c e d) = class_answer _ (class_cases (beta_at n k a b j))
  says_answer y f (inner g s m l p d) = ⊎_elim (λ e. inl e) (⊎_elim (λ e. inr (inr (inr (inr (inr (inr (inl e))))))) (class_answer _)) (inner_ran f m l)
  says_answer y f (at_answer g s m l p z {i = i} {c = c} q) = class_answer _ (first_class (at (found_of n k limit edition a b m)) (length (found_of n k limit edition a b m)) i c q)
  says_answer y f (found g s m l p z q) = inl refl

-- ---- of every call

record Whole (n k limit edition : ℕ) (a b : Vec) (y : Answer) : Type 0 where
  points : AtMark y → Points n k limit edition a b y
  zero : (AtMark y → ⊥) → y.index ≡ 0
  one : LanczosAnswer y.answer

whole : (n k limit edition : ℕ) (a b work x : Vec) → Whole n k limit edition a b (lanczos n k limit edition a b work x).0
whole n k limit edition a b work x = go (passed c) refl
  where
    c : Answer
    c = checks n k limit edition (length a) (length b) (length work) (length x)

    o : Outcome
    o = lanczos n k limit edition a b work x

    go : (t : Bool) → passed c ≡ t → Whole n k limit edition a b o.0
    go true e =
        let f = checks_fit n k limit edition (length a) (length b) (length work) (length x) e in
        let s = lanczos_says n k limit edition a b work x e in
        record { points = says_points n k limit edition a b (o.0, o.2) f s; zero = says_zero n k limit edition a b (o.0, o.2) s; one = says_answer n k limit edition a b (o.0, o.2) f s }
    go false e =
        let h = checks_checked n k limit edition (length a) (length b) (length work) (length x) in
        subst (λ (y : Outcome). Whole n k limit edition a b y.0) (sym (Rattle.lanczos_theorems.proofs.OldContents.lanczos_untouched n k limit edition a b work x e))
        (record { points = λ u. absurd (h.unmarked u); zero = λ u. h.none; one = h.one })

-- **lanczos_index_points**, **lanczos_index_zero**, **lanczos_answers**: y is what a call came back with
module _ (n k limit edition : ℕ) (a b work x : Vec) (y : Outcome) (p : Promised n k limit edition a b work x y) where
  of_call : Whole n k limit edition a b y.0
  of_call = subst (λ (o : Outcome). Whole n k limit edition a b o.0) (sym p) (whole n k limit edition a b work x)

  pub lanczos_index_points_calls : AtMark y.0 → Points n k limit edition a b y.0
  lanczos_index_points_calls = of_call.points

  pub lanczos_index_zero_calls : (AtMark y.0 → ⊥) → y.0.index ≡ 0
  lanczos_index_zero_calls = of_call.zero

  pub lanczos_answers_calls : LanczosAnswer y.0.answer
  lanczos_answers_calls = of_call.one

  pub lanczos_says_calls : passed (checks n k limit edition (length a) (length b) (length work) (length x)) ≡ true → Says n k limit edition a b (y.0, y.2)
  lanczos_says_calls h = subst (λ (o : Outcome). Says n k limit edition a b (o.0, o.2)) (sym p) (lanczos_says n k limit edition a b work x h)

-- ---- and the other way: what the steps say is what the call gives, so each number is given exactly where they say it

module _ (n k : ℕ) (a b : Vec) where
  -- why step i is the last
  data Fate (i : ℕ) : Type 0 where
    no_alpha : is_finite (alpha_at n k a b i) ≡ false → Fate i
    no_beta : is_finite (alpha_at n k a b i) ≡ true → is_finite (beta_at n k a b i) ≡ false → Fate i
    small : is_finite (alpha_at n k a b i) ≡ true → is_finite (beta_at n k a b i) ≡ true → lt least_beta (beta_at n k a b i) ≡ false → Fate i

  last_one : (i : ℕ) → Fate i → Goes n k a b i → ⊥
  last_one i (no_alpha e) g = true≢false (sym g.alpha ∙ e)
  last_one i (no_beta p e) g = true≢false (sym g.beta ∙ e)
  last_one i (small p q e) g = true≢false (sym g.wide ∙ e)

  one_fate : (i j : ℕ) → Clean n k a b i → Fate i → Clean n k a b j → Fate j → i ≡ j
  one_fate i j c f d g = elim (dec_lt i j) [
    | yes l ↦ absurd (last_one i f (d i l))
    | no p ↦ elim (dec_lt j i) [
      | yes l ↦ absurd (last_one j g (c j l))
      | no q ↦ same i j p q
    ]
  ]
    where
      same : (i j : ℕ) → (i < j → ⊥) → (j < i → ⊥) → i ≡ j
      same i j p q = omega arith

  abbrev finite_a : ℕ → Bool
  finite_a i = is_finite (alpha_at n k a b i)

  abbrev finite_b : ℕ → Bool
  finite_b i = is_finite (beta_at n k a b i)

  abbrev Ended : LanczosState
  Ended = state_at n k a b (size n k)

  said_alpha : (j : ℕ) → j < size n k → Clean n k a b j → is_finite (alpha_at n k a b j) ≡ false → Ended.0.said ≡ answered (class_of (alpha_at n k a b j)) 4 j 0
  said_alpha j l c e = go (stands n k a b (size n k))
    where
      go : Stands n k a b (size n k) Ended → Ended.0.said ≡ answered (class_of (alpha_at n k a b j)) 4 j 0
      go (goes o s d g) = absurd (last_one j (no_alpha e) (g j l))
      go (over o s i m d g p q r) = absurd (true≢false (sym p ∙ ap finite_a (one_fate i j g (small p q r) c (no_alpha e)) ∙ e))
      go (bad_alpha o i m g p s) = s ∙ ap (λ (t : ℕ). answered (class_of (alpha_at n k a b t)) 4 t 0) (one_fate i j g (no_alpha p) c (no_alpha e))
      go (bad_beta o i m g p q s) = absurd (true≢false (sym p ∙ ap finite_a (one_fate i j g (no_beta p q) c (no_alpha e)) ∙ e))

  said_beta : (j : ℕ) → j < size n k → Clean n k a b j → is_finite (alpha_at n k a b j) ≡ true → is_finite (beta_at n k a b j) ≡ false → Ended.0.said ≡ answered (class_of (beta_at n k a b j)) 5 j 0
  said_beta j l c e f = go (stands n k a b (size n k))
    where
      go : Stands n k a b (size n k) Ended → Ended.0.said ≡ answered (class_of (beta_at n k a b j)) 5 j 0
      go (goes o s d g) = absurd (last_one j (no_beta e f) (g j l))
      go (over o s i m d g p q r) = absurd (true≢false (sym q ∙ ap finite_b (one_fate i j g (small p q r) c (no_beta e f)) ∙ f))
      go (bad_alpha o i m g p s) = absurd (true≢false (sym e ∙ sym (ap finite_a (one_fate i j g (no_alpha p) c (no_beta e f))) ∙ p))
      go (bad_beta o i m g p q s) = s ∙ ap (λ (t : ℕ). answered (class_of (beta_at n k a b t)) 5 t 0) (one_fate i j g (no_beta p q) c (no_beta e f))

  said_done : (m : ℕ) → Stepped n k a b m → (Ended.0.said ≡ done 0) × (Ended.0.dim ≡ m)
  said_done m (all c) = go (stands n k a b (size n k))
    where
      go : Stands n k a b (size n k) Ended → (Ended.0.said ≡ done 0) × (Ended.0.dim ≡ size n k)
      go (goes o s d g) = (s, d)
      go (over o s i l d g p q r) = absurd (last_one i (small p q r) (c i l))
      go (bad_alpha o i l g p s) = absurd (last_one i (no_alpha p) (c i l))
      go (bad_beta o i l g p q s) = absurd (last_one i (no_beta p q) (c i l))
  said_done m (early j l c e f h) = go (stands n k a b (size n k))
    where
      go : Stands n k a b (size n k) Ended → (Ended.0.said ≡ done 0) × (Ended.0.dim ≡ j + 1)
      go (goes o s d g) = absurd (last_one j (small e f h) (g j l))
      go (over o s i m d g p q r) = (s, d ∙ ap (λ (t : ℕ). t + 1) (one_fate i j g (small p q r) c (small e f h)))
      go (bad_alpha o i m g p s) = absurd (true≢false (sym e ∙ sym (ap finite_a (one_fate i j g (no_alpha p) c (small e f h))) ∙ p))
      go (bad_beta o i m g p q s) = absurd (true≢false (sym f ∙ sym (ap finite_b (one_fate i j g (no_beta p q) c (small e f h))) ∙ q))

module _ (n k limit edition : ℕ) (a b : Vec) where
  abbrev Run : Option Bad → Answer × Vec
  Run y = cond (passed (refusal7 y)) (ran n k limit edition a b) (none n k (refusal7 y))

  taken_run : Finite (a ++ b) → Run (first_bad (a ++ b)) ≡ ran n k limit edition a b
  taken_run f = ap Run (first_bad_fine (a ++ b) f)

  abbrev Ran : Bool → Answer × Vec
  Ran t = cond t (solved n k limit edition (state_at n k a b (size n k))) (none n k (answered (class_of (norm n b)) 3 0 0))

  ran_by : (t : Bool) → is_finite (norm n b) ≡ t → ran n k limit edition a b ≡ Ran t
  unfolding ran
  ran_by t e = ap Ran e

  -- what the pairs come to
  paired_stops : (m : ℕ) → ((inner_of n k limit edition a b m).0.answer ≡ 0 → ⊥) → paired n k m (state_at n k a b (size n k)).1 (inner_of n k limit edition a b m) ≡ none n k (inner_of n k limit edition a b m).0
  unfolding paired
  paired_stops m d = rw (ne_eqb (inner_of n k limit edition a b m).0.answer 0 d)

  paired_looks : (m : ℕ) → (inner_of n k limit edition a b m).0.answer ≡ 0
      → paired n k m (state_at n k a b (size n k)).1 (inner_of n k limit edition a b m) ≡ looked (least k m) (inner_of n k limit edition a b m).0.count (found_of n k limit edition a b m)
  unfolding paired selected
  paired_looks m z = rw (eq-eqb (inner_of n k limit edition a b m).0.answer 0 z)

  abbrev Looked : ℕ → ℕ → Vec → Option Bad → Answer × Vec
  Looked f c x y = cond (is_some y) (marked 6 c y, zeros (length x)) (answered 0 f 0 c, x)

  looked_by : (f c : ℕ) (x : Vec) (y : Option Bad) → first_bad x ≡ y → looked f c x ≡ Looked f c x y
  unfolding looked
  looked_by f c x y e = ap (Looked f c x) e

  -- **lanczos_gives**
  says_is : (y : Answer × Vec) → Says n k limit edition a b y → Run (first_bad (a ++ b)) ≡ y
  says_is y (at_number {i = i} {c = c} g) = ap Run (first_scan (at (a ++ b)) (length (a ++ b)) i c g)
  says_is y (at_norm g e) = taken_run g ∙ ran_by false e
  says_is y (at_alpha g s j l c e) = taken_run g ∙ ran_by true s ∙ sym (solved_stops n k limit edition a b g s _ (said_alpha n k a b j l c e) (class_not (alpha_at n k a b j)))
  says_is y (at_beta g s j l c e d) = taken_run g ∙ ran_by true s ∙ sym (solved_stops n k limit edition a b g s _ (said_beta n k a b j l c e d) (class_not (beta_at n k a b j)))
  says_is y (inner g s m l p d) =
      let q = said_done n k a b m p in
      taken_run g ∙ ran_by true s ∙ sym (solved_goes n k limit edition a b g s q.0 m q.1) ∙ paired_stops m d
  says_is y (at_answer g s m l p z {i = i} {c = c} f) =
      let q = said_done n k a b m p in
      taken_run g ∙ ran_by true s ∙ sym (solved_goes n k limit edition a b g s q.0 m q.1) ∙ paired_looks m z
      ∙ looked_by (least k m) (inner_of n k limit edition a b m).0.count (found_of n k limit edition a b m) (bad_at i c) (first_scan (at (found_of n k limit edition a b m)) (length (found_of n k limit edition a b m)) i c f)
  says_is y (found g s m l p z f) =
      let q = said_done n k a b m p in
      taken_run g ∙ ran_by true s ∙ sym (solved_goes n k limit edition a b g s q.0 m q.1) ∙ paired_looks m z
      ∙ looked_by (least k m) (inner_of n k limit edition a b m).0.count (found_of n k limit edition a b m) None (first_bad_fine (found_of n k limit edition a b m) f)

  -- **lanczos_exactly**: of a call that passes the checks: (r, x) is what it answers, and the array, exactly where its steps say that; and work is all +0.0
  lanczos_is : (work x : Vec) → passed (checks n k limit edition (length a) (length b) (length work) (length x)) ≡ true
      → lanczos n k limit edition a b work x ≡ ((Run (first_bad (a ++ b))).0, zeros (length work), (Run (first_bad (a ++ b))).1)
  unfolding lanczos
  lanczos_is work x h = rw h

  pub lanczos_exactly_calls : (work x : Vec) (y : Outcome) → Promised n k limit edition a b work x y → passed (checks n k limit edition (length a) (length b) (length work) (length x)) ≡ true
      → (r : Answer) (z : Vec) → (y ≡ (r, zeros (length work), z)) ↔ Says n k limit edition a b (r, z)
  lanczos_exactly_calls work x y p h r z = (
    λ e. subst (Says n k limit edition a b) (λ i. ((e i).0, (e i).2)) (subst (λ (o : Outcome). Says n k limit edition a b (o.0, o.2)) (sym p) (lanczos_says n k limit edition a b work x h)),
    λ s. p ∙ lanczos_is work x h ∙ ap (λ (o : Answer × Vec). (o.0, zeros (length work), o.1)) (says_is (r, z) s),
  )
