-- What `leading` comes back with, number by number. Laws only.
use Rattle.leaves.specs.declared.Bad.{Bad}
use Rattle.std.specs.Prelude.{◌≡◌, refl, Bool, true, false, cond, ℕ, zero, suc, ◌+◌, ◌-◌, ◌*◌, ◌≤◌, ◌<◌, length, drop, Option, Some, None}
use Rattle.std.proofs.Common.{sym, ◌∙◌, subst, arith, eqb-true}
use Rattle.std.proofs.Math.Path.{ap}
use Rattle.std.proofs.lemmas.Bool.{eqb-false}
use Rattle.std.specs.Float.Ieee.{nan, le}
use Rattle.std.proofs.Math.ListN.{length-append, get_or-append}
use Rattle.std.proofs.Math.Seq.{get_or-append-add, get_or-drop}
use Rattle.grid.specs.Real.{Vec, at}
use Rattle.grid.specs.CellLaws.{cell}
use Rattle.grid.specs.Table.{table, rows}
use Rattle.grid.specs.TableLaws.{length_table, length_rows, at_table, at_rows}
use Rattle.leaves.specs.Leaf.{is_finite}
use Rattle.leaves.specs.Finite.{Finite}
use Rattle.leaves.specs.FiniteLaws.{both_finite}
use Rattle.leaves.specs.Scan.{first_bad}
use Rattle.leaves.specs.ScanLaws.{first_bad_none, first_bad_fine}
use Rattle.answers.specs.Answers.{passed, unless_bad}
use Rattle.answers.proofs.OutcomeLaws.{same_bad}
use Rattle.answers.specs.declared.Answer.{Answer}
use Rattle.gram_schmidt.specs.Gram.{column_of}
use Rattle.leading.specs.Leading.{led, checks, leading}
use Rattle.leading.specs.ChecksLaws.{Checked, checked, checks_pass}
use Rattle.leading.specs.Result.{given}

-- two outcomes that satisfy the promise are one
pub leading_one : (n k : ℕ) (v x : Vec) (o p : Answer × Vec) → o ≡ leading n k v x → p ≡ leading n k v x → o ≡ p
leading_one n k v x o p e f = e ∙ sym f

-- ---- where the answer is 0

pub leading_done : (n k : ℕ) (v x : Vec) → Checked n k (length v) (length x) → Finite v → leading n k v x ≡ given n k v
unfolding leading
leading_done n k v x c f = rw (checks_pass n k (length v) (length x) c, first_bad_fine v f)

-- and only there
pub record Taken (n k : ℕ) (v x : Vec) : Type 0 where
  pub fits : Checked n k (length v) (length x)
  pub finite : Finite v

pub leading_taken : (n k : ℕ) (v x : Vec) → (leading n k v x).0.answer ≡ 0 → Taken n k v x
unfolding leading
leading_taken n k v x = go (checks n k (length v) (length x)) refl (passed (checks n k (length v) (length x))) refl (first_bad v) refl
  where
    go : (c : Answer) → c ≡ checks n k (length v) (length x) → (p : Bool) → passed c ≡ p → (b : Option Bad) → first_bad v ≡ b
        → (cond p (unless_bad b x (given n k v)) (c, x)).0.answer ≡ 0 → Taken n k v x
    go c e true f None g h = record { fits = checked n k (length v) (length x) e (eqb-true c.answer 0 f); finite = first_bad_none v g }
    go c e true f (Some bad) g h = absurd (omega arith)
    go c e false f b g h = absurd (eqb-false c.answer 0 f h)

-- ---- what out held before

pub leading_old_contents : (n k : ℕ) (v x y : Vec) → length x ≡ length y → passed (checks n k (length v) (length x)) ≡ true → leading n k v x ≡ leading n k v y
unfolding leading
leading_old_contents n k v x y l h =
    rw (h, ap (λ (j : ℕ). passed (checks n k (length v) j)) (sym l) ∙ h) (same_bad (first_bad v) x y (given n k v) (given n k v) l refl)

pub leading_untouched : (n k : ℕ) (v x : Vec) → passed (checks n k (length v) (length x)) ≡ false → leading n k v x ≡ (checks n k (length v) (length x), x)
unfolding leading
leading_untouched n k v x h = rw h

-- ---- number by number

module _ (n k : ℕ) (v : Vec) where
  abbrev row : ℕ → Vec
  row t = column_of n n (drop n v) (n - 1 - t)

  -- value t is that of place n - 1 - t
  pub led_value : (t : ℕ) → t < k → at (led n k v) t ≡ at v (n - 1 - t)
  unfolding led
  led_value t p =
      get_or-append (table (λ t. at v (n - 1 - t)) k) (rows row k) nan t (omega (arith, length_table (λ t. at v (n - 1 - t)) k))
      ∙ at_table (λ t. at v (n - 1 - t)) k t p

  -- number i of row t is number i of its column
  pub led_number : (t i : ℕ) → t < k → i < n → at (led n k v) (k + (t * n + i)) ≡ at v (n + (i * n + (n - 1 - t)))
  unfolding led
  led_number t i p q =
      ap (λ (j : ℕ). at (led n k v) (j + (t * n + i))) (sym (length_table (λ t. at v (n - 1 - t)) k))
      ∙ get_or-append-add (table (λ t. at v (n - 1 - t)) k) (rows row k) (t * n + i) nan
      ∙ at_rows row n k t i (λ j. length_table _ n) p q
      ∙ at_table _ n i q
      ∙ get_or-drop n v (i * n + (n - 1 - t)) nan

  pub led_long : length (led n k v) ≡ k + k * n
  unfolding led
  led_long =
      length-append (table (λ t. at v (n - 1 - t)) k) (rows row k)
      ∙ (λ i. length_table (λ t. at v (n - 1 - t)) k i + length_rows row n k (λ j. length_table _ n) i)

  -- values that ascend, taken from the last one back, descend
  pub led_descends : k ≤ n → ((i j : ℕ) → i < j → j < n → le (at v i) (at v j) ≡ true) → (s t : ℕ) → s < t → t < k → le (at (led n k v) t) (at (led n k v) s) ≡ true
  led_descends h a s t p q = rw (led_value t q, led_value s (omega arith)) (a (n - 1 - t) (n - 1 - s) (omega arith) (omega arith))

-- ---- every number is one of the result's, so finite

rows_finite : (f : ℕ → Vec) (k : ℕ) → ((t : ℕ) → t < k → Finite (f t)) → Finite (rows f k)
unfolding rows
rows_finite f zero h = λ i p. absurd (omega arith)
rows_finite f (suc k) h = both_finite (rows f k) (f k) (rows_finite f k (λ t p. h t (omega arith))) (h k (omega arith))

pub led_finite : (n k : ℕ) (v : Vec) → k ≤ n → length v ≡ n + n * n → Finite v → Finite (led n k v)
unfolding led
led_finite n k v h l f = both_finite (table (λ t. at v (n - 1 - t)) k) (rows (row n k v) k) values (rows_finite (row n k v) k vectors)
  where
    values : Finite (table (λ t. at v (n - 1 - t)) k)
    values t p =
        let q : t < k = omega (arith, length_table (λ t. at v (n - 1 - t)) k) in
        ap is_finite (at_table (λ t. at v (n - 1 - t)) k t q) ∙ f (n - 1 - t) (omega arith)

    vectors : (t : ℕ) → t < k → Finite (row n k v t)
    vectors t p i q =
        let r : i < n = omega (arith, length_table (λ row. at (drop n v) (row * n + (n - 1 - t))) n) in
        ap is_finite (at_table (λ row. at (drop n v) (row * n + (n - 1 - t))) n i r ∙ get_or-drop n v (i * n + (n - 1 - t)) nan)
        ∙ f (n + (i * n + (n - 1 - t))) (omega (arith, cell n n i (n - 1 - t) r (omega arith)))

-- ---- of what a call came back with

pub leading_finite_out : (n k : ℕ) (v x : Vec) (o : Answer × Vec) → o ≡ leading n k v x → o.0.answer ≡ 0 → Finite o.1
leading_finite_out n k v x o e z =
    let t = leading_taken n k v x (ap (λ (y : Answer × Vec). y.0.answer) (sym e) ∙ z) in
    let s : o ≡ given n k v = e ∙ leading_done n k v x t.fits t.finite in
    subst (λ (y : Answer × Vec). Finite y.1) (sym s) (led_finite n k v t.fits.fits t.fits.result t.finite)
