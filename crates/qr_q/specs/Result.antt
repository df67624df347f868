-- Where the answer is 0, every number of the answer array is finite, and it is as long as the matrix: a finite norm makes each entry's square finite. Laws only.
use Rattle.leaves.specs.declared.Bad.{Bad}
use Rattle.std.specs.Prelude.{◌≡◌, refl, Bool, true, false, cond, ℕ, zero, suc, ◌+◌, ◌*◌, ◌<◌, Float, length, set, Option, Some, None}
use Rattle.std.proofs.Common.{sym, ap, ◌∙◌, subst, ⊎_elim, add-one, arith, eqb-true, length-set, get_or-set_same, get_or-set_other}
use Rattle.std.proofs.Math.Decide.{ℕ_discrete}
use Rattle.std.specs.Float.{nan}
use Rattle.std.specs.Float.Ieee.{of_bits, lt}
use Rattle.std.proofs.lemmas.List.{length-replicate, get_or-replicate}
use Rattle.grid.specs.Loop.{upto}
use Rattle.grid.specs.LoopLaws.{upto_more, upto_keeps}
use Rattle.grid.specs.Real.{Vec, at, zero64, epsilon, zeros, ◌⊕◌, ◌⊗◌, ◌⊘◌, ◌⊖◌}
use Rattle.grid.specs.CellLaws.{upto_long}
use Rattle.grid.specs.Table.{table}
use Rattle.grid.specs.TableLaws.{length_table, at_table, each}
use Rattle.grid.specs.Cell.{put_entry}
use Rattle.leaves.specs.Leaf.{is_finite}
use Rattle.leaves.specs.Scan.{class_of, first_bad}
use Rattle.leaves.specs.ScanLaws.{first_bad_none, class_cases}
use Rattle.leaves.specs.Finite.{Finite}
use Rattle.answers.specs.Answers.{answered, done, passed, emptied, unless_bad}
use Rattle.answers.proofs.OutcomeLaws.{Good, refuses, check_good}
use Rattle.answers.specs.declared.Answer.{Answer}
use Rattle.gram_schmidt.specs.Gram.{column_of, dot, lessened, less_columns, less_columns_twice, norm}
use Rattle.gram_schmidt.specs.Unit.{over, normalised, put_column, finished}
use Rattle.qr_q.specs.QrQ.{column, columns, checks, qr_q}
use Rattle.qr_q.specs.Quotient.{add_finite, root_finite, quotient}

-- ---- lists

set_finite : (q : Vec) (i : ℕ) (x : Float) → Finite q → is_finite x ≡ true → Finite (set q i x)
set_finite q i x f e k l = elim (ℕ_discrete k i) [
  | yes s ↦
      let b : i < length q = omega (arith, length-set q i x) in
      subst (λ (j : ℕ). is_finite (at (set q i x) j) ≡ true) (sym s) (ap is_finite (get_or-set_same q i x nan b) ∙ e)
  | no d ↦ ap is_finite (get_or-set_other q i k x nan d) ∙ f k (omega (arith, length-set q i x))
]

zero_finite : is_finite zero64 ≡ true
unfolding of_bits is_finite
zero_finite = refl

zeros_finite : (n : ℕ) → Finite (zeros n)
zeros_finite n k l = ap is_finite (get_or-replicate n k zero64 nan (omega (arith, length-replicate n zero64))) ∙ zero_finite

-- ---- a finite sum of squares

abbrev square_step : Vec → ℕ → Float → Float
square_step c row acc = acc ⊕ at c row ⊗ at c row

squares : (c : Vec) (m : ℕ) → is_finite (upto (square_step c) 0 m zero64) ≡ true → (row : ℕ) → row < m → is_finite (at c row ⊗ at c row) ≡ true
squares c zero h row l = absurd (omega arith)
squares c (suc m) h row l =
    let s : is_finite (upto (square_step c) 0 m zero64 ⊕ at c m ⊗ at c m) ≡ true =
    ap is_finite (sym (upto_more (square_step c) 0 m zero64 (omega arith)) ∙ ap (λ (k : ℕ). upto (square_step c) 0 k zero64) (add-one m)) ∙ h in
    let t = add_finite (upto (square_step c) 0 m zero64) (at c m ⊗ at c m) s in
    elim (ℕ_discrete row m) [
      | yes e ↦ subst (λ (k : ℕ). is_finite (at c k ⊗ at c k) ≡ true) (sym e) t.1
      | no d ↦ squares c m t.0 row (omega arith)
    ]

norm_squares : (m : ℕ) (c : Vec) → is_finite (norm m c) ≡ true → (row : ℕ) → row < m → is_finite (at c row ⊗ at c row) ≡ true
unfolding norm dot
norm_squares m c h = squares c m (root_finite (upto (square_step c) 0 m zero64) h)

-- ---- a column, normalised

over_finite : (m : ℕ) (by : Float) (c : Vec) → length c ≡ m → ((row : ℕ) → row < m → is_finite (at c row ⊘ by) ≡ true) → Finite (over m by c)
unfolding over
over_finite m by c l h = subst Finite (sym (each (λ j x. x ⊘ by) c m l)) made
  where
    made : Finite (table (λ j. at c j ⊘ by) m)
    made k p =
        let b : k < m = omega (arith, length_table (λ j. at c j ⊘ by) m) in
        ap is_finite (at_table (λ j. at c j ⊘ by) m k b) ∙ h k b

normalised_finite : (m : ℕ) (c : Vec) → length c ≡ m → is_finite (norm m c) ≡ true → Finite (normalised m (norm m c) c)
unfolding normalised
normalised_finite m c l h = go (lt epsilon (norm m c)) refl
  where
    go : (b : Bool) → lt epsilon (norm m c) ≡ b → Finite (cond b (over m (norm m c) c) (zeros (length c)))
    go true e = over_finite m (norm m c) c l (λ row p. quotient (at c row) (norm m c) (norm_squares m c h row p) h e)
    go false e = zeros_finite (length c)

normalised_long : (m : ℕ) (by : Float) (c : Vec) → length (normalised m by c) ≡ length c
unfolding normalised over
normalised_long m by c = go (lt epsilon by)
  where
    go : (b : Bool) → length (cond b (upto (λ row c. set c row (at c row ⊘ by)) 0 m c) (zeros (length c))) ≡ length c
    go true = upto_long (λ c. c) (λ row c. set c row (at c row ⊘ by)) 0 m c (λ j u. simp length-set)
    go false = length-replicate (length c) zero64

lessened_long : (m : ℕ) (proj : Float) (b c : Vec) → length (lessened m proj b c) ≡ length c
unfolding lessened
lessened_long m proj b c = upto_long (λ c. c) (λ row c. set c row (at c row ⊖ proj ⊗ at b row)) 0 m c (λ row w. simp length-set)

passes_long : (m k j : ℕ) (q c : Vec) → length (less_columns_twice m k j q c) ≡ length c
unfolding less_columns_twice less_columns
passes_long m k j q c =
    upto_long (λ c. c) (λ p. less_columns m k j q) 0 2 c (λ p u. upto_long (λ c. c) (λ i c. lessened m (dot m (column_of m k q i) c) (column_of m k q i) c) 0 j u (λ i v. lessened_long m _ _ v))

-- ---- into the array

put_finite : (m k j : ℕ) (c q : Vec) → length c ≡ m → Finite c → Finite q → Finite (put_column m k j c q)
unfolding put_column
put_finite m k j c q l f g =
    upto_keeps (λ s t. Finite s) (λ row q. put_entry q k row j (at c row)) (λ row q. put_entry q k row j (at c row)) 0 m q q (λ row s t a b h. set_finite s (row * k + j) (at c row) h (f row (omega arith))) g

put_long : (m k j : ℕ) (c q : Vec) → length (put_column m k j c q) ≡ length q
unfolding put_column
put_long m k j c q = upto_long (λ c. c) (λ row q. put_entry q k row j (at c row)) 0 m q (λ row u. simp length-set)

-- a refusal by a class is one
pub class_some : (x : Float) → class_of x ≡ 0 → ⊥
class_some x z = ⊎_elim (λ e. omega arith) (λ e. omega arith) (class_cases x)

column_good : (n m k j : ℕ) (q : Vec) → Finite q → length q ≡ n → Good n (column m k j q)
unfolding column finished
column_good n m k j q f l = go (is_finite (norm m c)) refl
  where
    c : Vec
    c = less_columns_twice m k j q (column_of m k q j)

    long : length c ≡ m
    long = passes_long m k j q (column_of m k q j) ∙ length_table _ m

    go : (b : Bool) → is_finite (norm m c) ≡ b → Good n (cond b (done 0, put_column m k j (normalised m (norm m c) c) q) (emptied (answered (class_of (norm m c)) j j 0) q))
    go true e = record {
      finite = λ z. put_finite m k j (normalised m (norm m c) c) q (normalised_long m (norm m c) c ∙ long) (normalised_finite m c long e) f;
      long = λ z. put_long m k j (normalised m (norm m c) c) q ∙ l;
    }
    go false e = refuses n _ _ (class_some (norm m c))

abbrev pub column_step : ℕ → ℕ → ℕ → Answer × Vec → Answer × Vec
column_step m k j s = cond (passed s.0) (column m k j s.1) s

columns_good : (m k : ℕ) (a : Vec) → Finite a → Good (length a) (columns m k a k)
unfolding columns
columns_good m k a f =
    upto_keeps (λ s t. Good (length a) s) (column_step m k) (column_step m k) 0 k (done 0, a) (done 0, a) (λ j s t p q g. turn j s g) (record { finite = λ z. f; long = λ z. refl })
  where
    turn : (j : ℕ) (s : Answer × Vec) → Good (length a) s → Good (length a) (column_step m k j s)
    turn j s g = go (passed s.0) refl
      where
        go : (b : Bool) → passed s.0 ≡ b → Good (length a) (cond b (column m k j s.1) s)
        go true e = column_good (length a) m k j s.1 (g.finite (eqb-true s.0.answer 0 e)) (g.long (eqb-true s.0.answer 0 e))
        go false e = g

qr_good : (m k : ℕ) (a x : Vec) → Good (length a) (qr_q m k a x)
unfolding qr_q
qr_good m k a x = check_good (length a) (checks m k (length a) (length x)) x _ (scanned (first_bad a) refl)
  where
    scanned : (b : Option Bad) → first_bad a ≡ b → Good (length a) (unless_bad b x (columns m k a k))
    scanned (Some bad) e = refuses (length a) _ _ (λ z. omega arith)
    scanned None e = columns_good m k a (first_bad_none a e)

-- **finite_out**
pub qr_q_finite_out : (m k : ℕ) (a x : Vec) → (qr_q m k a x).0.answer ≡ 0 → Finite (qr_q m k a x).1
qr_q_finite_out m k a x = (qr_good m k a x).finite

pub qr_q_long : (m k : ℕ) (a x : Vec) → (qr_q m k a x).0.answer ≡ 0 → length (qr_q m k a x).1 ≡ length a
qr_q_long m k a x = (qr_good m k a x).long
