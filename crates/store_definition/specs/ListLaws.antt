-- Laws of lists that the sequence theorem goes by: parts of a buffer's front, and lists with no number twice. Laws only.
use Rattle.std.specs.Prelude.{◌≡◌, refl, Bool, true, false, cond, List, [], ◌∷◌, ◌++◌, ℕ, suc, ◌+◌, ◌-◌, ◌≤◌, ltb, eqb, length, take, drop}
use Rattle.std.proofs.Common.{sym, ap, ◌∙◌, true≢false, append_assoc, arith, ltb-false, ne_eqb, le-ltb, length-append, length-drop, take-append-drop, length-take-le, take-take, take_at, drop_at}
use Rattle.std.proofs.lemmas.Bool.{eqb-false}
use Rattle.std.proofs.lemmas.List.{drop-take}
use Rattle.std.proofs.Math.Seq.{paste}
use Rattle.std.proofs.lemmas.List.Edits.{take-paste, length-paste}
use Rattle.store_definition.specs.Store.{place, distinct, closed}

module _ {A : Type 0} where
  -- l's front is p, q, r: p and r one behind the other after q is closed
  module _ (l p q r : List A) (n : ℕ) (e : take n l ≡ p ++ (q ++ r)) (h : n ≤ length l) where
    lengths : n ≡ length p + (length q + length r)
    lengths = sym (length-take-le n l h) ∙ ap length e ∙ simp length-append

    pub closed_cut : (at w : ℕ) → length p ≡ at → length q ≡ w → take (n - w) (closed l at w n) ≡ p ++ r
    closed_cut at w a b =
        let j : ℕ = n - (at + w) in
        let s : List A = drop (at + w) l in
        let k : n - w ≡ at + j = omega (arith, lengths) in
        let m : at + w + j ≡ n = omega (arith, lengths) in
        let front : take at l ≡ p = sym (take-take at n l (omega (arith, lengths))) ∙ ap (take at) e ∙ take_at p (q ++ r) at a in
        let pq : length (p ++ q) ≡ at + w = simp length-append (omega arith) in
        let back : take j s ≡ r =
        sym (drop-take (at + w) j l) ∙ ap (λ (i : ℕ). drop (at + w) (take i l)) m ∙ ap (drop (at + w)) (e ∙ sym (append_assoc p q r)) ∙ drop_at (p ++ q) r (at + w) pq in
        ap (λ (i : ℕ). take i (paste l at s j)) k ∙ take-paste l at s j (omega (arith, lengths)) (omega (arith, lengths, length-drop (at + w) l))
        ∙ ap (λ (x : List A). x ++ take j s) front ∙ ap (λ (x : List A). p ++ x) back

    pub closed_length : (at w : ℕ) → length p ≡ at → length q ≡ w → length (closed l at w n) ≡ length l
    closed_length at w a b = length-paste l at (drop (at + w) l) (n - (at + w)) (omega (arith, lengths)) (omega (arith, lengths, length-drop (at + w) l))

    -- q itself
    pub part_of : (at w : ℕ) → length p ≡ at → length q ≡ w → take w (drop at l) ≡ q
    part_of at w a b =
        let d : List A = drop n l in
        let whole : l ≡ p ++ (q ++ (r ++ d)) = sym (take-append-drop n l) ∙ ap (λ (x : List A). x ++ d) e ∙ simp append_assoc in
        ap (λ (x : List A). take w (drop at x)) whole ∙ ap (take w) (drop_at p (q ++ (r ++ d)) at a) ∙ take_at q (r ++ d) w b

    pub front_of : (at : ℕ) → length p ≡ at → take at l ≡ p
    front_of at a = sym (take-take at n l (omega (arith, lengths))) ∙ ap (take at) e ∙ take_at p (q ++ r) at a

-- ---- no number twice

pub Fresh : ℕ → List ℕ → Type 0
Fresh x [] = Unit
Fresh x (y ∷ l) = (y ≡ x → ⊥) × Fresh x l

pub Distinct : List ℕ → Type 0
Distinct [] = Unit
Distinct (x ∷ l) = Fresh x l × Distinct l

pub fresh_of : (x : ℕ) (l : List ℕ) → length l ≤ place x l → Fresh x l
unfolding place Fresh
fresh_of x [] h = tt
fresh_of x (y ∷ l) h = go (eqb y x) refl h (fresh_of x l)
  where
    go : (b : Bool) → eqb y x ≡ b → suc (length l) ≤ cond b 0 (suc (place x l)) → (length l ≤ place x l → Fresh x l) → Fresh x (y ∷ l)
    go true e h rest = absurd (omega arith)
    go false e h rest = (eqb-false y x e, rest (omega arith))

pub place_of_lem : (x : ℕ) (l : List ℕ) → Fresh x l → place x l ≡ length l
unfolding place Fresh
place_of_lem x [] f = refl
place_of_lem x (y ∷ l) f = rw (ne_eqb y x f.0) (ap suc (place_of_lem x l f.1))

pub distinct_of : (l : List ℕ) → distinct l ≡ true → Distinct l
unfolding distinct Distinct
distinct_of [] e = tt
distinct_of (x ∷ l) e = go (ltb (place x l) (length l)) refl e (distinct_of l)
  where
    go : (b : Bool) → ltb (place x l) (length l) ≡ b → cond b false (distinct l) ≡ true → (distinct l ≡ true → Distinct l) → Distinct (x ∷ l)
    go true g e rest = absurd (true≢false (sym e))
    go false g e rest = (fresh_of x l (ltb-false (place x l) (length l) g), rest e)

pub distinct_is : (l : List ℕ) → Distinct l → distinct l ≡ true
unfolding distinct Distinct
distinct_is [] d = refl
distinct_is (x ∷ l) d = rw (le-ltb (place x l) (length l) (omega (arith, place_of_lem x l d.0))) (distinct_is l d.1)

fresh_append : (x t : ℕ) (l : List ℕ) → Fresh x l → (t ≡ x → ⊥) → Fresh x (l ++ (t ∷ []))
unfolding Fresh
fresh_append x t [] f h = (h, tt)
fresh_append x t (y ∷ l) f h = (f.0, fresh_append x t l f.1 h)

pub distinct_append : (t : ℕ) (l : List ℕ) → Distinct l → Fresh t l → Distinct (l ++ (t ∷ []))
unfolding Fresh Distinct
distinct_append t [] d f = (tt, tt)
distinct_append t (x ∷ l) d f = (fresh_append x t l d.0 (λ e. f.0 (sym e)), distinct_append t l d.1 f.1)

fresh_cut : (x t : ℕ) (l m : List ℕ) → Fresh x (l ++ (t ∷ m)) → Fresh x (l ++ m)
unfolding Fresh
fresh_cut x t [] m f = f.1
fresh_cut x t (y ∷ l) m f = (f.0, fresh_cut x t l m f.1)

pub distinct_cut : (t : ℕ) (l m : List ℕ) → Distinct (l ++ (t ∷ m)) → Distinct (l ++ m)
unfolding Distinct
distinct_cut t [] m d = d.1
distinct_cut t (x ∷ l) m d = (fresh_cut x t l m d.0, distinct_cut t l m d.1)
