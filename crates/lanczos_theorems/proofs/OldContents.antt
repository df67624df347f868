-- What work and the answer array held before changes nothing but what a refusal 1 to 6, 12, 14 or 15 leaves as it was (`lanczos_old_contents`). Laws only.
use Rattle.std.specs.Prelude.{◌≡◌, refl, Bool, true, false, cond, not, ℕ, ◌+◌, ◌*◌, ltb, eqb, length}
use Rattle.std.proofs.Common.{sym, ◌∙◌, subst, inl, inr, true≢false, arith}
use Rattle.grid.specs.Real.{Vec}
use Rattle.answers.specs.Answers.{done, refused, passed}
use Rattle.answers.proofs.OutcomeLaws.{few_early, old_kept}
use Rattle.answers.specs.declared.Answer.{Answer}
use Rattle.answers.specs.Checks.{limit_good, edition_good, lengths}
use Rattle.answers.specs.ChecksLaws.{lengths_few}
use Rattle.lanczos.specs.Checks.{work_length, checks}
use Rattle.lanczos.specs.Lanczos.{lanczos}
use Rattle.lanczos.specs.LanczosLaws.{lanczos_entered}
use Rattle.lanczos_theorems.specs.Early.{Untouched, Outcome, Promised}

-- a check that refuses touches nothing
checks_early : (n k limit edition a b work x : ℕ) → passed (checks n k limit edition a b work x) ≡ false → Untouched (checks n k limit edition a b work x)
unfolding checks
checks_early n k limit edition a b work x = go (ltb 256 n) (limit_good limit) (edition_good edition) (eqb n 0) (ltb n k) (passed l) refl (eqb x (k + k * n))
  where
    l : Answer
    l = lengths a (n * n) b n work (work_length n k)

    go : (p q r s t u : Bool) → passed l ≡ u → (v : Bool)
        → passed (cond p (refused 1 0) (cond (not q) (refused 2 0) (cond (not r) (refused 12 0) (cond s (refused 14 0) (cond t (refused 15 0) (cond u (cond v (done 0) (refused 6 3)) l)))))) ≡ false
        → Untouched (cond p (refused 1 0) (cond (not q) (refused 2 0) (cond (not r) (refused 12 0) (cond s (refused 14 0) (cond t (refused 15 0) (cond u (cond v (done 0) (refused 6 3)) l))))))
    go true q r s t u e v h = inl (inl (record { some = omega arith; few = omega arith }))
    go false false r s t u e v h = inl (inl (record { some = omega arith; few = omega arith }))
    go false true false s t u e v h = inl (inr refl)
    go false true true true t u e v h = inr (inl refl)
    go false true true false true u e v h = inr (inr refl)
    go false true true false false true e true h = absurd (true≢false h)
    go false true true false false true e false h = inl (inl (record { some = omega arith; few = omega arith }))
    go false true true false false false e v h = inl (inl (few_early l (lengths_few a (n * n) b n work (work_length n k)) h))

-- where it refuses nothing, the old contents are not read
entered_same : (n k limit edition : ℕ) (a b work work' : Vec) → length work ≡ length work' → lanczos_entered n k limit edition a b work ≡ lanczos_entered n k limit edition a b work'
entered_same n k limit edition a b work work' l = rw l

-- **lanczos_old_contents**
pub lanczos_old_contents : (n k limit edition : ℕ) (a b work x work' x' : Vec) → length work ≡ length work' → length x ≡ length x'
    → (Untouched (lanczos n k limit edition a b work x).0 → ⊥) → lanczos n k limit edition a b work x ≡ lanczos n k limit edition a b work' x'
unfolding lanczos
lanczos_old_contents n k limit edition a b work x work' x' lw lx h =
    old_kept Outcome Untouched (λ y. y.0) (c (length work) (length x)) (lanczos_entered n k limit edition a b work) (lanczos_entered n k limit edition a b work') (c (length work) (length x), work, x) (c (length work) (length x), work', x')
    (checks_early n k limit edition (length a) (length b) (length work) (length x)) (λ t. entered_same n k limit edition a b work work' lw) refl h
    ∙ (λ i. cond (passed (c (lw i) (lx i))) (lanczos_entered n k limit edition a b work') (c (lw i) (lx i), work', x'))
  where
    c : ℕ → ℕ → Answer
    c j m = checks n k limit edition (length a) (length b) j m

-- of two calls
pub lanczos_old_contents_calls : (n k limit edition : ℕ) (a b work x work' x' : Vec) (y z : Outcome) → length work ≡ length work' → length x ≡ length x'
    → Promised n k limit edition a b work x y → Promised n k limit edition a b work' x' z → (Untouched y.0 → ⊥) → y ≡ z
lanczos_old_contents_calls n k limit edition a b work x work' x' y z lw lx p q h =
    p ∙ lanczos_old_contents n k limit edition a b work x work' x' lw lx (λ e. h (subst (λ (o : Outcome). Untouched o.0) (sym p) e)) ∙ sym q

-- and such a refusal leaves both arrays as they were
pub lanczos_untouched : (n k limit edition : ℕ) (a b work x : Vec) → passed (checks n k limit edition (length a) (length b) (length work) (length x)) ≡ false
    → lanczos n k limit edition a b work x ≡ (checks n k limit edition (length a) (length b) (length work) (length x), work, x)
unfolding lanczos
lanczos_untouched n k limit edition a b work x h = rw h
