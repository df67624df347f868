-- The parts of work: what is lent in its middle comes back there, and what stands before and behind it stays. Laws only.
use mathlib.Core.Path.{◌≡◌, sym, ap, ◌∙◌}
use mathlib.Core.Bool.{true, false}
use mathlib.Core.List.{◌++◌}
use Prim.Native.Nat.{ℕ, ◌+◌, ◌*◌, ◌-◌, ◌≤◌}
use native.Mathlib.Omega.{arith}
use lib.ListN.{length, take, drop, length-append, length-drop}
use lib.Seq.{take_at, drop_at, length-take-le}
use Rattle.grid.specs.Real.{Vec, zeros}
use Rattle.grid.specs.Table.{part}
use Rattle.grid.specs.TableLaws.{length_part}
use Rattle.answers.specs.Answers.{passed}
use Rattle.answers.specs.declared.Answer.{Answer}
use Rattle.eigen_symmetric_eigen.specs.SymmetricEigen.{cleared}
use Rattle.eigen_symmetric_eigen.specs.PartsLaws.{zeros_take, zeros_drop}
use Rattle.matvec.specs.Matvec.{replaced}
use Rattle.lanczos_steps.specs.KrylovLaws.{Both}
use Rattle.lanczos_pairs.specs.LeadingPairs.{selected}
use Rattle.lanczos_pairs.specs.TridiagonalMatrix.{tri}
use Rattle.lanczos_pairs.specs.TridiagonalEigen.{inward}
use Rattle.lanczos_pairs.specs.InPlaceLaws.{inner_of, out, Fine, inward_is}
use Rattle.lanczos.specs.FitsLaws.{Called, Small}
use Rattle.lanczos.specs.Run.{paired}

-- ---- a part from f on, of k numbers, that has become ys

module _ (f k : ℕ) (ys xs : Vec) (fits : f + k ≤ length xs) where
  front_stays : take f (replaced f (f + k) ys xs) ≡ take f xs
  front_stays = take_at (take f xs) _ f (length-take-le f xs (omega arith))

  middle_is : length ys ≡ k → part f (f + k) (replaced f (f + k) ys xs) ≡ ys
  middle_is l =
      ap (take (f + k - f)) (drop_at (take f xs) (ys ++ drop (f + k - f) (drop f xs)) f (length-take-le f xs (omega arith)))
      ∙ take_at ys _ (f + k - f) (omega arith)

-- ---- the small problem in such a part

module _ (n s k m limit edition : ℕ) (al be work d e : Vec) (called : Called limit edition) (small : Small n s m (length work))
    (clean : part (s * n) (s * n + m * m) work ≡ zeros (m * m)) (fresh_d : d ≡ zeros m) (fresh-e : e ≡ zeros m) (fine : Both al be)
    {r : Answer} {t d' e' : Vec}
    (is : ◌≡◌ {A = Answer × Vec × Vec × Vec} (r, t, d', e') (inner_of m limit edition (tri m al be (part (s * n) (s * n + m * m) work), d, e))) where
  few : m ≤ 256
  few = omega (arith, small.few, small.steps)

  finite : Fine m al be
  finite = record { alphas = λ i l. fine.alphas.fine i (omega (arith, few)); betas = λ i l. fine.betas.fine i (omega (arith, few)) }

  handed : inward m limit edition al be ≡ out m (r, t, d', e')
  handed =
      inward_is m limit edition small.some few called.least called.most called.good al be finite
      ∙ ap (out m) (sym (is ∙ (λ i. inner_of m limit edition (tri m al be (clean i), fresh_d i, fresh-e i))))

  pub solve_stops : (x : Vec) → x ≡ zeros (k + k * n) → passed r ≡ false
      → ◌≡◌ {A = Answer × Vec} (r, x) (paired n k m (take (s * n) work) (inward m limit edition al be))
  unfolding paired
  solve_stops x g h =
      let o : inward m limit edition al be ≡ cleared m r = handed ∙ simp h in
      ap (λ (y : Vec). (r, y)) g ∙ rw (o, h)

  pub solve_goes : (x : Vec) {z : Answer × Vec} → x ≡ zeros (k + k * n) → passed r ≡ true → length d' ≡ m → length t ≡ m * m
      → z ≡ selected n k m r.count (take (s * n) (replaced (s * n) (s * n + m * m) t work)) d' (part (s * n) (s * n + m * m) (replaced (s * n) (s * n + m * m) t work)) x
      → z ≡ paired n k m (take (s * n) work) (inward m limit edition al be)
  unfolding paired
  solve_goes x g h l o c =
      let p : inward m limit edition al be ≡ (r, zeros m, d' ++ t) = handed ∙ simp h in
      c
      ∙ (λ i. selected n k m r.count (front_stays (s * n) (m * m) t work small.room i) d' (middle_is (s * n) (m * m) t work small.room o i) (g i))
      ∙ rw (p, h, take_at d' t m l, drop_at d' t m l)

-- ---- work that is all zeros, once its front is q

module _ (f : ℕ) (q work : Vec) (clean : work ≡ zeros (length work)) (fits : f ≤ length work) where
  pub front_zeros : take f work ≡ zeros f
  front_zeros = ap (take f) clean ∙ zeros_take f (length work) fits

  behind_zeros : drop f work ≡ zeros (length work - f)
  behind_zeros =
      let e : length work ≡ f + (length work - f) = omega arith in
      ap (drop f) (clean ∙ ap zeros e) ∙ zeros_drop f (length work - f)

  pub front_is : length q ≡ f → take f (q ++ drop f work) ≡ q
  front_is l = take_at q (drop f work) f l

  pub part_zeros : (k : ℕ) → length q ≡ f → f + k ≤ length work → part f (f + k) (q ++ drop f work) ≡ zeros k
  part_zeros k l h =
      let e : f + k - f ≡ k = omega arith in
      ap (λ (j : ℕ). take j (drop f (q ++ drop f work))) e
      ∙ ap (take k) (drop_at q (drop f work) f l ∙ behind_zeros)
      ∙ zeros_take k (length work - f) (omega arith)

  pub front_length : length q ≡ f → length (q ++ drop f work) ≡ length work
  front_length l = omega (arith, length-append q (drop f work), length-drop f work)

-- ---- the part of the small problem

pub part_long : (n s m : ℕ) (work : Vec) → Small n s m (length work) → length (part (s * n) (s * n + m * m) work) ≡ m * m
part_long n s m work h = length_part (s * n) (s * n + m * m) work (omega arith) h.room ∙ omega arith
