-- What an answer of 0 says, and the steps of the reader's loop over the entries. Laws only.
use Rattle.std.specs.Prelude.{◌≡◌, refl, Some, Result, Ok, Err, IfOk, Bool, true, false, cond, List, ℕ, zero, suc, ◌+◌, ◌-◌, ◌*◌, ◌≤◌, ◌<◌, ltb, leb, eqb, length}
use Rattle.std.specs.Result.{result_ok, IsErrAnd}
use Rattle.std.proofs.Common.{sym, subst, ap, ◌∙◌, le_antisymm, arith, ltb-false, leb-false, eqb-true, le-ltb, eq-eqb, ne_eqb}
use Rattle.std.proofs.lemmas.Bool.{eqb-false, lt-leb}
use Rattle.answers.specs.Answers.{least}
use Rattle.answers.specs.AnswersLaws.{least_le, product_le}
use Rattle.octets.specs.Bytes.{num}
use Rattle.block_read.specs.Content.{size}
use Rattle.block_read.specs.Refusals.{refusal_number, number_of}
use Rattle.block_read.specs.declared.refusal.BlockRefusal.{BlockRefusal}
use Rattle.block_read.specs.declared.refusal.BlockRefusal.TheVariants.{Length, Short, Over, Count, Kind, Offset}
use Rattle.block_read.specs.Reading.{or_else, dimensions, head_answer, entry_answer, end_answer, entries, behind, answer_of}

pub size_most : (r c k : ℕ) → r ≤ 256 → c ≤ 256 → size r c k ≤ 65536
unfolding size
size_most r c k p q = go (eqb k 1)
  where
    go : (x : Bool) → cond x (least r c) (r * c) ≤ 65536
    go true = omega (arith, least_le r c 256 p q)
    go false = product_le r c p q

-- ---- answers

pub no_refusal : (r : BlockRefusal) → refusal_number r ≡ 0 → ⊥
no_refusal Length h = omega (arith, h)
no_refusal Short h = omega (arith, h)
no_refusal Over h = omega (arith, h)
no_refusal Count h = omega (arith, h)
no_refusal Kind h = omega (arith, h)
no_refusal Offset h = omega (arith, h)

-- nothing is refused where there is a value
pub passes : {A : Type 0} (x : Result A BlockRefusal) {a : A} → result_ok x ≡ Some a → number_of x ≡ 0
passes {A} x {a} = go x
  where
    go : (y : Result A BlockRefusal) → result_ok y ≡ Some a → number_of y ≡ 0
    go (Ok b) h = refl
    go (Err r) h = cc

-- and then it is as said
pub at_ok : {A : Type 0} (P : A → Type 0) (x : Result A BlockRefusal) {a : A} → result_ok x ≡ Some a → IfOk x P → P a
at_ok {A} P x {a} = go x
  where
    go : (y : Result A BlockRefusal) → result_ok y ≡ Some a → IfOk y P → P a
    go (Ok b) h p =
        let e : b ≡ a = cc in
        subst P e p
    go (Err r) h p =
        let z : ◌≡◌ {A = ℕ} 0 1 = cc in
        absurd (omega arith)

-- a refusal that `?` sends on
pub sent_on : {A : Type 0} (x : Result A BlockRefusal) (r : BlockRefusal) → IsErrAnd x (λ e. e ≡ r) → number_of x ≡ refusal_number r
sent_on {A} x r = go x
  where
    go : (y : Result A BlockRefusal) → IsErrAnd y (λ e. e ≡ r) → number_of y ≡ refusal_number r
    go (Ok b) h = absurd h
    go (Err e) h = ap refusal_number h

pub or_else_lem : (a b : ℕ) → or_else a b ≡ 0 → (a ≡ 0) × (b ≡ 0)
or_else_lem a b = go (eqb a 0) refl
  where
    go : (x : Bool) → eqb a 0 ≡ x → cond x b a ≡ 0 → (a ≡ 0) × (b ≡ 0)
    go true e h = (eqb-true a 0 e, h)
    go false e h = absurd (eqb-false a 0 e h)

pub or_zero : (a : ℕ) → or_else a 0 ≡ a
or_zero a = go (eqb a 0) refl
  where
    go : (x : Bool) → eqb a 0 ≡ x → cond x 0 a ≡ a
    go true e = sym (eqb-true a 0 e)
    go false e = refl

pub record Sized (r c n : ℕ) : Type 0 where
  pub high : r ≤ 256
  pub wide : c ≤ 256
  pub few : n ≤ 3

pub dimensions_good : (r c n : ℕ) → dimensions r c n ≡ 0 → Sized r c n
unfolding dimensions
dimensions_good r c n = go (ltb 256 r) (ltb 256 c) (ltb 3 n) refl refl refl
  where
    go : (x y z : Bool) → ltb 256 r ≡ x → ltb 256 c ≡ y → ltb 3 n ≡ z → ◌≡◌ {A = ℕ} (cond x 22 (cond y 22 (cond z 22 0))) 0 → Sized r c n
    go true y z a b d h = absurd (omega arith)
    go false true z a b d h = absurd (omega arith)
    go false false true a b d h = absurd (omega arith)
    go false false false a b d h = record { high = ltb-false 256 r a; wide = ltb-false 256 c b; few = ltb-false 3 n d }

pub dimensions_pass : (r c n : ℕ) → r ≤ 256 → c ≤ 256 → n ≤ 3 → dimensions r c n ≡ 0
unfolding dimensions
dimensions_pass r c n p q s = rw (le-ltb 256 r p, le-ltb 256 c q, le-ltb 3 n s)

pub record Headed (r c last k n : ℕ) : Type 0 where
  pub above : last < k
  pub known : k ≤ 3
  pub count : n ≡ size r c k

pub head_good : (r c last k n : ℕ) → head_answer r c last k n ≡ 0 → Headed r c last k n
unfolding head_answer
head_good r c last k n = go (leb k last) (ltb 3 k) (eqb n (size r c k)) refl refl refl
  where
    go : (x y z : Bool) → leb k last ≡ x → ltb 3 k ≡ y → eqb n (size r c k) ≡ z → ◌≡◌ {A = ℕ} (cond x 23 (cond y 23 (cond z 0 22))) 0 → Headed r c last k n
    go true y z a b d h = absurd (omega arith)
    go false true z a b d h = absurd (omega arith)
    go false false false a b d h = absurd (omega arith)
    go false false true a b d h = record { above = leb-false k last a; known = ltb-false 3 k b; count = eqb-true n (size r c k) d }

pub head_pass : (r c last k n : ℕ) → last < k → k ≤ 3 → n ≡ size r c k → head_answer r c last k n ≡ 0
unfolding head_answer
head_pass r c last k n p q e = rw (lt-leb k last p, le-ltb 3 k q, eq-eqb n (size r c k) e)

pub record Entered (t : List ℕ) (r c at last off : ℕ) : Type 0 where
  pub head : Headed r c last (num 4 t at) (num 4 t (at + 8))
  pub offset : num 4 t (at + 4) ≡ off

pub entry_good : (t : List ℕ) (r c at last off : ℕ) → entry_answer t r c at last off ≡ 0 → Entered t r c at last off
unfolding entry_answer
entry_good t r c at last off h =
    let w = or_else_lem (head_answer r c last (num 4 t at) (num 4 t (at + 8))) (cond (eqb (num 4 t (at + 4)) off) 0 24) h in
    record { head = head_good r c last (num 4 t at) (num 4 t (at + 8)) w.0; offset = go (eqb (num 4 t (at + 4)) off) refl w.1 }
  where
    go : (x : Bool) → eqb (num 4 t (at + 4)) off ≡ x → ◌≡◌ {A = ℕ} (cond x 0 24) 0 → num 4 t (at + 4) ≡ off
    go true e g = eqb-true (num 4 t (at + 4)) off e
    go false e g = absurd (omega arith)

pub entry_pass : (t : List ℕ) (r c at last off : ℕ) → head_answer r c last (num 4 t at) (num 4 t (at + 8)) ≡ 0 → num 4 t (at + 4) ≡ off → entry_answer t r c at last off ≡ 0
unfolding entry_answer
entry_pass t r c at last off h e = rw (h, eq-eqb (num 4 t (at + 4)) off e)

pub ended_good : (len off : ℕ) → end_answer len off ≡ 0 → len ≡ off
unfolding end_answer
ended_good len off = go (ltb len off) (ltb off len) refl refl
  where
    go : (x y : Bool) → ltb len off ≡ x → ltb off len ≡ y → ◌≡◌ {A = ℕ} (cond x 20 (cond y 21 0)) 0 → len ≡ off
    go true y a b h = absurd (omega arith)
    go false true a b h = absurd (omega arith)
    go false false a b h = le_antisymm (ltb-false off len b) (ltb-false len off a)

pub ended_pass : (len off : ℕ) → len ≡ off → end_answer len off ≡ 0
unfolding end_answer
ended_pass len off e = rw (le-ltb len off (omega arith), le-ltb off len (omega arith))

-- ---- the reader's loop over the entries, n of them: what is left gives what the whole gives

pub entries_here : (t : List ℕ) (r c n i last off : ℕ) {a R : ℕ} → i < n → a ≡ entry_answer t r c (12 + 12 * i) last off → (a ≡ 0 → ⊥)
    → entries t r c (n - i) (12 + 12 * i) last off ≡ R → a ≡ R
unfolding entries
entries_here t r c n i last off {a} h e z g =
    let k : n - i ≡ suc (n - (i + 1)) = omega arith in
    rw (k, ← e, ne_eqb a 0 z) at g

pub entries_next : (t : List ℕ) (r c n i last off : ℕ) {a k s R : ℕ} → i < n → a ≡ entry_answer t r c (12 + 12 * i) last off → a ≡ 0
    → k ≡ num 4 t (12 + 12 * i) → s ≡ size r c k → entries t r c (n - i) (12 + 12 * i) last off ≡ R → entries t r c (n - (i + 1)) (12 + 12 * (i + 1)) k (off + 8 * s) ≡ R
unfolding entries
entries_next t r c n i last off {a} {k} {s} h e z p q g =
    let m : n - i ≡ suc (n - (i + 1)) = omega arith in
    let f : 12 + 12 * (i + 1) ≡ 12 + 12 * i + 12 = omega arith in
    rw (f, q, p) (rw (m, ← e, eq-eqb a 0 z) at g)

pub entries_done : (t : List ℕ) (r c n i last off : ℕ) {a R : ℕ} → n ≤ i → a ≡ end_answer (length t) off → entries t r c (n - i) (12 + 12 * i) last off ≡ R → a ≡ R
unfolding entries
entries_done t r c n i last off h e g =
    let k : n - i ≡ 0 = omega arith in
    e ∙ (rw k at g)

-- ---- a block that is read

pub record Opened (t : List ℕ) : Type 0 where
  pub first : 12 ≤ length t
  pub sized : Sized (num 4 t 0) (num 4 t 4) (num 4 t 8)
  pub second : 12 + 12 * num 4 t 8 ≤ length t
  pub rest : entries t (num 4 t 0) (num 4 t 4) (num 4 t 8) 12 0 (12 + 12 * num 4 t 8) ≡ 0

pub opened : (t : List ℕ) → answer_of t ≡ 0 → Opened t
unfolding answer_of behind
opened t = go (ltb (length t) 12) (ltb (length t) (12 + 12 * num 4 t 8)) refl refl
  where
    whole : ℕ
    whole = entries t (num 4 t 0) (num 4 t 4) (num 4 t 8) 12 0 (12 + 12 * num 4 t 8)

    go : (x y : Bool) → ltb (length t) 12 ≡ x → ltb (length t) (12 + 12 * num 4 t 8) ≡ y
        → cond x 20 (or_else (dimensions (num 4 t 0) (num 4 t 4) (num 4 t 8)) (cond y 20 whole)) ≡ 0 → Opened t
    go true y a b h = absurd (omega arith)
    go false true a b h = absurd (omega (arith, or_else_lem (dimensions (num 4 t 0) (num 4 t 4) (num 4 t 8)) 20 h))
    go false false a b h =
        let w = or_else_lem (dimensions (num 4 t 0) (num 4 t 4) (num 4 t 8)) whole h in
        record {
          first = ltb-false (length t) 12 a;
          sized = dimensions_good (num 4 t 0) (num 4 t 4) (num 4 t 8) w.0;
          second = ltb-false (length t) (12 + 12 * num 4 t 8) b;
          rest = w.1;
        }

-- the numbers that are still to come stand within the block
pub entries_within : (t : List ℕ) (r c left at last off : ℕ) → entries t r c left at last off ≡ 0 → off ≤ length t
unfolding entries
entries_within t r c zero at last off h = omega (arith, ended_good (length t) off h)
entries_within t r c (suc left) at last off h =
    let k : ℕ = num 4 t at in
    let w = or_else_lem (entry_answer t r c at last off) (entries t r c left (at + 12) k (off + 8 * size r c k)) h in
    omega (arith, entries_within t r c left (at + 12) k (off + 8 * size r c k) w.1)
