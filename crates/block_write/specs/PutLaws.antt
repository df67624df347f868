-- A block put to its destination piece by piece is the block, and the shapes of the code that inner contracts cite. Laws only.
use Rattle.std.specs.Prelude.{◌≡◌, refl, Bool, true, false, cond, List, [], ◌∷◌, ◌++◌, map, sum_by, take, drop, get_or, ℕ, zero, suc, ◌+◌, ◌*◌, ◌≤◌, ◌<◌, ltb, eqb, length, replicate}
use Rattle.std.proofs.Common.{sym, ap, ◌∙◌, append_assoc, length-append, arith, eqb-true, eq-eqb, ne_eqb, le-ltb}
use Rattle.std.proofs.lemmas.Bool.{eqb-false}
use Rattle.std.proofs.Math.Seq.{take-nil}
use Rattle.std.proofs.Math.ListN.{drop_of_length-le}
use Rattle.std.proofs.lemmas.List.{length-map, map-id, take-map, length-replicate, length-take-le, at_drop_more}
use Rattle.std.proofs.lemmas.List.Sums.{sum_by-cons}
use Rattle.std.proofs.lemmas.List.Edits.{sets}
use Rattle.answers.specs.Answers.{done, refused}
use Rattle.answers.specs.declared.Answer.{Answer}
use Rattle.octets.specs.Bytes.{three, words_bytes}
use Rattle.octets.proofs.BytesLaws.{three_length, words_bytes_length}
use Rattle.octets.proofs.StoreLaws.{sets_append, put_both, put_whole}
use Rattle.block_read.specs.Content.{Part, size, heads, entries_bytes, numbers_bytes, block_of}
use Rattle.block_read.specs.Reading.{dimensions, head_answer}
use Rattle.block_read.specs.CheckLaws.{Sized, size_most, or_else_lem, dimensions_good, head_good}
use Rattle.block_write.specs.Writing.{given, heads_answer, checked, length_of, written}

-- ---- the length as the code computes it

-- how many bytes so many numbers of each part take
unfoldable pub bytes_of : List ℕ → ℕ
bytes_of [] = 0
bytes_of (n ∷ ns) = 8 * n + bytes_of ns

-- of a block with so many parts of these counts
unfoldable pub length_with : ℕ → List ℕ → ℕ
length_with count ns = 12 + 12 * count + bytes_of ns

-- ---- the code's first half: the checks, then all but the numbers

abbrev pub head_bytes : ℕ → ℕ → ℕ → List (ℕ × ℕ) → List ℕ
head_bytes rows columns count hs = three rows columns count ++ entries_bytes (12 + 12 * count) hs

unfoldable pub headed : ℕ → ℕ → ℕ → List (ℕ × ℕ) → List ℕ → List ℕ → ℕ × List ℕ
headed rows columns count hs ns out =
    cond (eqb (checked rows columns count hs) 0)
    (cond (eqb (length out) (length_with count ns)) (0, sets out 0 (head_bytes rows columns count hs)) (6, out))
    (checked rows columns count hs, out)

-- ---- lengths

pub entries_bytes_length : (off : ℕ) (hs : List (ℕ × ℕ)) → length (entries_bytes off hs) ≡ 12 * length hs
unfolding entries_bytes
entries_bytes_length off [] = refl
entries_bytes_length off (h ∷ hs) =
    length-append (three h.0 off h.1) (entries_bytes (off + 8 * h.1) hs)
    ∙ rw (three_length h.0 off h.1, entries_bytes_length (off + 8 * h.1) hs) (omega arith)

abbrev pub counts : List Part → List ℕ
counts [] = []
counts (p ∷ ps) = length p.1 ∷ counts ps

-- the counts of parts that are given by kind and count
abbrev pub head_counts : List (ℕ × ℕ) → List ℕ
head_counts hs = map (λ h. h.1) hs

pub heads_length : (ps : List Part) → length (heads ps) ≡ length ps
unfolding heads
heads_length [] = refl
heads_length (p ∷ ps) = ap suc (heads_length ps)

pub heads_counts : (ps : List Part) → head_counts (heads ps) ≡ counts ps
unfolding heads
heads_counts [] = refl
heads_counts (p ∷ ps) = ap (λ (ns : List ℕ). length p.1 ∷ ns) (heads_counts ps)

pub heads_taken : (n : ℕ) (ps : List Part) → take n (heads ps) ≡ heads (take n ps)
unfolding heads
heads_taken zero ps = refl
heads_taken (suc n) [] = refl
heads_taken (suc n) (p ∷ ps) = ap (λ (hs : List (ℕ × ℕ)). (p.0, length p.1) ∷ hs) (heads_taken n ps)

pub numbers_bytes_length : (ps : List Part) → length (numbers_bytes ps) ≡ bytes_of (counts ps)
unfolding numbers_bytes bytes_of
numbers_bytes_length [] = refl
numbers_bytes_length (p ∷ ps) = length-append (words_bytes p.1) (numbers_bytes ps) ∙ rw (words_bytes_length p.1, numbers_bytes_length ps)

pub block_length : (r c : ℕ) (ps : List Part) → length (block_of r c ps) ≡ length_with (length ps) (counts ps)
unfolding block_of length_with
block_length r c ps =
    let off : ℕ = 12 + 12 * length ps in
    length-append (three r c (length ps)) (entries_bytes off (heads ps) ++ numbers_bytes ps)
    ∙ rw (
      three_length r c (length ps),
      length-append (entries_bytes off (heads ps)) (numbers_bytes ps),
      entries_bytes_length off (heads ps),
      heads_length ps,
      numbers_bytes_length ps,
    ) (omega arith)

-- the writer's length test is the block's length
pub whole_length : (r c : ℕ) (ps : List Part) → length (block_of r c ps) ≡ length_with (length ps) (head_counts (heads ps))
whole_length r c ps = block_length r c ps ∙ rw (heads_counts ps)

pub with_is : (count : ℕ) (ns : List ℕ) → length_with count ns ≡ 12 + 12 * count + bytes_of ns
unfolding length_with
with_is count ns = refl

pub bytes_sum : (hs : List (ℕ × ℕ)) → bytes_of (head_counts hs) ≡ 8 * sum_by (λ h. h.1) hs
unfolding bytes_of
bytes_sum [] = refl
bytes_sum (h ∷ hs) = rw (bytes_sum hs, sum_by-cons (λ (g : ℕ × ℕ). g.1) h hs) (omega arith)

-- the length as the code sums it
pub length_sum : (hs : List (ℕ × ℕ)) → 12 + 12 * length hs + 8 * sum_by (λ h. h.1) hs ≡ length_with (length hs) (head_counts hs)
unfolding length_with
length_sum hs = rw (bytes_sum hs)

-- ---- the first count of three

pub given_taken : {A : Type 0} (count : ℕ) (a b c : A) → given count a b c ≡ take count (a ∷ b ∷ c ∷ [])
unfolding given
given_taken zero a b c = refl
given_taken (suc zero) a b c = refl
given_taken (suc (suc zero)) a b c = refl
given_taken (suc (suc (suc n))) a b c =
    let one : ltb (suc (suc (suc n))) 1 ≡ false = le-ltb (suc (suc (suc n))) 1 (omega arith) in
    let two : ltb (suc (suc (suc n))) 2 ≡ false = le-ltb (suc (suc (suc n))) 2 (omega arith) in
    let three : ltb (suc (suc (suc n))) 3 ≡ false = le-ltb (suc (suc (suc n))) 3 (omega arith) in
    rw one (rw two (rw three (ap (λ l. a ∷ b ∷ c ∷ l) (sym (take-nil n)))))

pub given_length : {A : Type 0} (count : ℕ) (a b c : A) → count ≤ 3 → length (given count a b c) ≡ count
given_length count a b c h = ap length (given_taken count a b c) ∙ length-take-le count (a ∷ b ∷ c ∷ []) h

-- ---- the checks

-- what the checks let through is no longer than full parts
pub heads_most : (r c last : ℕ) (hs : List (ℕ × ℕ)) → r ≤ 256 → c ≤ 256 → heads_answer r c last hs ≡ 0 → sum_by (λ h. h.1) hs ≤ 65536 * length hs
unfolding heads_answer
heads_most r c last [] p q e = omega arith
heads_most r c last ((k, n) ∷ hs) p q e =
    let w = or_else_lem (head_answer r c last k n) (heads_answer r c k hs) e in
    rw (sum_by-cons (λ (g : ℕ × ℕ). g.1) (k, n) hs) (omega (arith, size_most r c k p q, (head_good r c last k n w.0).count, heads_most r c k hs p q w.1))

pub checked_dimensions : (r c count : ℕ) (hs : List (ℕ × ℕ)) → checked r c count hs ≡ 0 → Sized r c count
unfolding checked
checked_dimensions r c count hs e = dimensions_good r c count (or_else_lem (dimensions r c count) (heads_answer r c 0 hs) e).0

pub checked_refused : (r c count : ℕ) (hs : List (ℕ × ℕ)) {a : ℕ} → a ≡ dimensions r c count → (a ≡ 0 → ⊥) → a ≡ checked r c count hs
unfolding checked
checked_refused r c count hs {a} e z = rw (← e, ne_eqb a 0 z)

pub checked_heads : (r c count : ℕ) (hs : List (ℕ × ℕ)) → 0 ≡ dimensions r c count → heads_answer r c 0 hs ≡ checked r c count hs
unfolding checked
checked_heads r c count hs e = rw (← e)

-- so many numbers fit
pub heads_fit : (r c count : ℕ) (hs : List (ℕ × ℕ)) → r ≤ 256 → c ≤ 256 → count ≤ 3 → length hs ≡ count → 0 ≡ heads_answer r c 0 hs → (length hs ≤ 3) × (sum_by (λ h. h.1) hs ≤ 196608)
heads_fit r c count hs p q few l e = (omega arith, omega (arith, heads_most r c 0 hs p q (sym e)))

pub head_put : (r c count : ℕ) (hs : List (ℕ × ℕ)) (l m n : List ℕ) → m ≡ sets l 0 (three r c count) → n ≡ sets m 12 (entries_bytes (12 + 12 * count) hs)
    → n ≡ sets l 0 (head_bytes r c count hs)
head_put r c count hs l m n p q = put_both l m n 0 12 (three r c count) (entries_bytes (12 + 12 * count) hs) (rw (three_length r c count)) p q

-- what the code knows where the checks pass
pub record Passed (r c count : ℕ) (hs : List (ℕ × ℕ)) : Type 0 where
  pub few : count ≤ 3
  pub taken : length hs ≡ count
  pub checks : checked r c count hs ≡ 0

pub passed : (r c count : ℕ) (all : List (ℕ × ℕ)) {r' c' : ℕ} → length all ≡ 3 → 0 ≡ dimensions r c count → r' ≡ r → c' ≡ c → 0 ≡ heads_answer r' c' 0 (take count all) → Passed r c count (take count all)
passed r c count all three d er ec e =
    let l : count ≤ 3 = (dimensions_good r c count (sym d)).few in
    record { few = l; taken = length-take-le count all (omega (arith, l, three)); checks = sym ((rw (er, ec) at e) ∙ checked_heads r c count (take count all) d) }

-- what the first half comes to
module _ (r c count : ℕ) (hs : List (ℕ × ℕ)) (out : List ℕ) where
  pub headed_refused : {a : ℕ} → a ≡ checked r c count hs → (a ≡ 0 → ⊥) → ◌≡◌ {A = ℕ × List ℕ} (a, out) (headed r c count hs (head_counts hs) out)
  unfolding headed
  headed_refused {a} e z = rw (← e, ne_eqb a 0 z)

  pub headed_misfit : checked r c count hs ≡ 0 → length hs ≡ count → (length out ≡ 12 + 12 * length hs + 8 * sum_by (λ h. h.1) hs → ⊥) → ◌≡◌ {A = ℕ × List ℕ} (6, out) (headed r c count hs (head_counts hs) out)
  unfolding headed
  headed_misfit e l z =
      let long : 12 + 12 * length hs + 8 * sum_by (λ h. h.1) hs ≡ length_with count (head_counts hs) = length_sum hs ∙ rw l in
      rw (e, ← long, ne_eqb (length out) (12 + 12 * length hs + 8 * sum_by (λ h. h.1) hs) z)

  pub headed_done : (m n : List ℕ) → checked r c count hs ≡ 0 → length hs ≡ count → length out ≡ 12 + 12 * length hs + 8 * sum_by (λ h. h.1) hs → m ≡ sets out 0 (three r c count)
      → n ≡ sets m 12 (entries_bytes (12 + 12 * count) hs) → ◌≡◌ {A = ℕ × List ℕ} (0, n) (headed r c count hs (head_counts hs) out)
  unfolding headed
  headed_done m n e l z p q =
      let long : 12 + 12 * length hs + 8 * sum_by (λ h. h.1) hs ≡ length_with count (head_counts hs) = length_sum hs ∙ rw l in
      rw (e, ← long, eq-eqb (length out) (12 + 12 * length hs + 8 * sum_by (λ h. h.1) hs) z) (ap (λ (v : List ℕ). (0, v)) (head_put r c count hs out m n p q))

-- a part that is refused, one that is not, and none
pub heads_here : (r c last : ℕ) (hs : List (ℕ × ℕ)) (i : ℕ) {a R : ℕ} → i < length hs → a ≡ head_answer r c last (get_or hs i (0, 0)).0 (get_or hs i (0, 0)).1 → (a ≡ 0 → ⊥)
    → heads_answer r c last (drop i hs) ≡ R → a ≡ R
unfolding heads_answer
heads_here r c last hs i {a} h e z g =
    sym (at_drop_more (heads_answer r c last) hs i (0, 0) h ∙ rw (← e, ne_eqb a 0 z)) ∙ g

pub heads_next : (r c last : ℕ) (hs : List (ℕ × ℕ)) (i : ℕ) {R : ℕ} → i < length hs → 0 ≡ head_answer r c last (get_or hs i (0, 0)).0 (get_or hs i (0, 0)).1
    → heads_answer r c last (drop i hs) ≡ R → heads_answer r c (get_or hs i (0, 0)).0 (drop (i + 1) hs) ≡ R
unfolding heads_answer
heads_next r c last hs i h e g = sym (at_drop_more (heads_answer r c last) hs i (0, 0) h ∙ rw (← e)) ∙ g

pub heads_done : (r c last : ℕ) (hs : List (ℕ × ℕ)) (i : ℕ) {R : ℕ} → length hs ≤ i → heads_answer r c last (drop i hs) ≡ R → 0 ≡ R
unfolding heads_answer
heads_done r c last hs i h g = rw (drop_of_length-le hs h) at g

-- ---- the pieces as the code puts them

-- how much is left to put
pub bytes_next : (hs : List (ℕ × ℕ)) (i off room : ℕ) → i < length hs → off + bytes_of (head_counts (drop i hs)) ≤ room
    → off + 8 * (get_or hs i (0, 0)).1 + bytes_of (head_counts (drop (i + 1) hs)) ≤ room
unfolding bytes_of
bytes_next hs i off room h g = omega (arith, g, at_drop_more (λ l. bytes_of (head_counts l)) hs i (0, 0) h)

pub entries_next : (l m : List ℕ) (hs : List (ℕ × ℕ)) (i off : ℕ) {R : List ℕ} → i < length hs → m ≡ sets l (12 + 12 * i) (three (get_or hs i (0, 0)).0 off (get_or hs i (0, 0)).1)
    → sets l (12 + 12 * i) (entries_bytes off (drop i hs)) ≡ R → sets m (12 + 12 * (i + 1)) (entries_bytes (off + 8 * (get_or hs i (0, 0)).1) (drop (i + 1) hs)) ≡ R
unfolding entries_bytes
entries_next l m hs i off h e g =
    let k : ℕ = (get_or hs i (0, 0)).0 in
    let n : ℕ = (get_or hs i (0, 0)).1 in
    let at : 12 + 12 * i + length (three k off n) ≡ 12 + 12 * (i + 1) = rw (three_length k off n) (omega arith) in
    ap (λ (v : List ℕ). sets v (12 + 12 * (i + 1)) (entries_bytes (off + 8 * n) (drop (i + 1) hs))) e
    ∙ ap (λ (j : ℕ). sets (sets l (12 + 12 * i) (three k off n)) j (entries_bytes (off + 8 * n) (drop (i + 1) hs))) (sym at)
    ∙ sym (sets_append l (12 + 12 * i) (three k off n) (entries_bytes (off + 8 * n) (drop (i + 1) hs)))
    ∙ sym (at_drop_more (λ v. sets l (12 + 12 * i) (entries_bytes off v)) hs i (0, 0) h)
    ∙ g

pub entries_done : (l : List ℕ) (hs : List (ℕ × ℕ)) (i at off : ℕ) {R : List ℕ} → length hs ≤ i → sets l at (entries_bytes off (drop i hs)) ≡ R → l ≡ R
unfolding entries_bytes
entries_done l hs i at off h g = rw (drop_of_length-le hs h) at g

-- the same of the numbers of parts x, whatever type holds them
module _ {X : Type 0} (xs : List X) (i at : ℕ) (x : X) (h : i < length xs) (is : x ≡ get_or xs i x) where
  rest : {Y : Type 0} (F : List X → Y) → F (drop i xs) ≡ F (x ∷ drop (i + 1) xs)
  rest F = at_drop_more F xs i x h ∙ ap (λ (y : X). F (y ∷ drop (i + 1) xs)) (sym is)

  pub counts_next : (count : X → ℕ) (room : ℕ) → at + bytes_of (map count (drop i xs)) ≤ room → at + 8 * count x + bytes_of (map count (drop (i + 1) xs)) ≤ room
  unfolding bytes_of
  counts_next count room g = omega (arith, g, rest (λ l. bytes_of (map count l)))

  pub numbers_next : (part : X → Part) (l m : List ℕ) (n : ℕ) {R : List ℕ} → n ≡ length (part x).1 → m ≡ sets l at (words_bytes (part x).1)
      → sets l at (numbers_bytes (map part (drop i xs))) ≡ R → sets m (at + 8 * n) (numbers_bytes (map part (drop (i + 1) xs))) ≡ R
  unfolding numbers_bytes
  numbers_next part l m n k e g =
      let ws : List ℕ = words_bytes (part x).1 in
      let ps : List ℕ = numbers_bytes (map part (drop (i + 1) xs)) in
      let long : at + length ws ≡ at + 8 * n = rw (words_bytes_length (part x).1, k) in
      ap (λ (v : List ℕ). sets v (at + 8 * n) ps) e
      ∙ ap (λ (j : ℕ). sets (sets l at ws) j ps) (sym long)
      ∙ sym (sets_append l at ws ps)
      ∙ sym (rest (λ v. sets l at (numbers_bytes (map part v))))
      ∙ g

pub numbers_done : {X : Type 0} (xs : List X) (i at : ℕ) (part : X → Part) (l : List ℕ) {R : List ℕ} → length xs ≤ i → sets l at (numbers_bytes (map part (drop i xs))) ≡ R → l ≡ R
unfolding numbers_bytes
numbers_done xs i at part l h g = rw (drop_of_length-le xs h) at g

-- ---- the whole

module _ (r c count : ℕ) (ps : List Part) (all : count ≤ 3 → length ps ≡ count) (out : List ℕ) where
  abbrev tops : List (ℕ × ℕ)
  tops = heads ps

  abbrev sums : List ℕ
  sums = head_counts (heads ps)

  few : checked r c count tops ≡ 0 → length ps ≡ count
  few e = all (checked_dimensions r c count tops e).few

  -- what the first half says where it is done
  pub record Begun (m : List ℕ) : Type 0 where
    pub checks : checked r c count (heads ps) ≡ 0
    pub room : length out ≡ length_with count (head_counts (heads ps))
    pub put : m ≡ sets out 0 (head_bytes r c count (heads ps))

  pub begun : (a : ℕ) (m : List ℕ) → ◌≡◌ {A = ℕ × List ℕ} (a, m) (headed r c count tops sums out) → a ≡ 0 → Begun m
  unfolding headed
  begun a m = go (eqb (checked r c count tops) 0) refl (eqb (length out) (length_with count sums)) refl
    where
      go : (x : Bool) → eqb (checked r c count tops) 0 ≡ x → (y : Bool) → eqb (length out) (length_with count sums) ≡ y
          → ◌≡◌ {A = ℕ × List ℕ} (a, m) (cond x (cond y (0, sets out 0 (head_bytes r c count tops)) (6, out)) (checked r c count tops, out)) → a ≡ 0 → Begun m
      go true e true f h z = record { checks = eqb-true (checked r c count tops) 0 e; room = eqb-true (length out) (length_with count sums) f; put = ap (λ (s : ℕ × List ℕ). s.1) h }
      go true e false f h z = absurd (omega (arith, z, ap (λ (s : ℕ × List ℕ). s.0) h))
      go false e y f h z = absurd (eqb-false (checked r c count tops) 0 e (sym (ap (λ (s : ℕ × List ℕ). s.0) h) ∙ z))

  pub written_refused : (a : ℕ) (m : List ℕ) → ◌≡◌ {A = ℕ × List ℕ} (a, m) (headed r c count tops sums out) → (a ≡ 0 → ⊥) → ◌≡◌ {A = Answer × List ℕ} (refused a 0, m) (written r c count ps out)
  unfolding headed written
  written_refused a m = go (eqb (checked r c count tops) 0) refl (eqb (length out) (length_with count sums)) refl
    where
      go : (x : Bool) → eqb (checked r c count tops) 0 ≡ x → (y : Bool) → eqb (length out) (length_with count sums) ≡ y
          → ◌≡◌ {A = ℕ × List ℕ} (a, m) (cond x (cond y (0, sets out 0 (head_bytes r c count tops)) (6, out)) (checked r c count tops, out)) → (a ≡ 0 → ⊥)
          → ◌≡◌ {A = Answer × List ℕ} (refused a 0, m)
          (cond (eqb (checked r c count tops) 0) (cond (eqb (length out) (length (block_of r c ps))) (done 0, block_of r c ps) (refused 6 0, out)) (refused (checked r c count tops) 0, out))
      go true e true f h d = absurd (d (ap (λ (s : ℕ × List ℕ). s.0) h))
      go true e false f h d = rw (e, whole_length r c ps, few (eqb-true (checked r c count tops) 0 e), f) (ap (λ (s : ℕ × List ℕ). (refused s.0 0, s.1)) h)
      go false e y f h d = rw e (ap (λ (s : ℕ × List ℕ). (refused s.0 0, s.1)) h)

  pub written_done : (m n : List ℕ) → Begun m → n ≡ sets m (12 + 12 * count) (numbers_bytes ps) → ◌≡◌ {A = Answer × List ℕ} (done 0, n) (written r c count ps out)
  unfolding written block_of
  written_done m n b e =
      let off : ℕ = 12 + 12 * count in
      let k : length ps ≡ count = few b.checks in
      let size : 0 + length (head_bytes r c count tops) ≡ off =
      rw (length-append (three r c count) (entries_bytes off tops), three_length r c count, entries_bytes_length off tops, heads_length ps, k) (omega arith) in
      let put : n ≡ sets out 0 (head_bytes r c count tops ++ numbers_bytes ps) = put_both out m n 0 off (head_bytes r c count tops) (numbers_bytes ps) size b.put e in
      let long : length out ≡ length (block_of r c ps) = b.room ∙ sym (whole_length r c ps ∙ rw k) in
      let same : head_bytes r c count tops ++ numbers_bytes ps ≡ block_of r c ps = rw k (append_assoc (three r c count) (entries_bytes off tops) (numbers_bytes ps)) in
      let whole : n ≡ block_of r c ps = put ∙ ap (λ (v : List ℕ). sets out 0 v) same ∙ put_whole out (block_of r c ps) long in
      rw (eq-eqb (checked r c count tops) 0 b.checks, eq-eqb (length out) _ long) (ap (λ (v : List ℕ). (done 0, v)) whole)

-- ---- the length by kinds alone

-- a kind, with the count that it has in a block of that shape
abbrev pub sized : ℕ → ℕ → ℕ → ℕ × ℕ
sized rows columns kind = (kind, size rows columns kind)

abbrev pub length_by : ℕ → ℕ → ℕ → ℕ → ℕ → ℕ → ℕ
length_by rows columns count k1 k2 k3 =
    let hs = given count (sized rows columns k1) (sized rows columns k2) (sized rows columns k3) in
    cond (eqb (checked rows columns count hs) 0) (length_with count (head_counts hs)) 0

pub length_by_lem : (r c count k1 k2 k3 : ℕ) → length_of r c count k1 k2 k3 ≡ length_by r c count k1 k2 k3
unfolding length_of heads
length_by_lem r c count k1 k2 k3 =
    ap (λ (hs : List (ℕ × ℕ)). cond (eqb (checked r c count hs) 0) (length (block_of r c ps)) 0) tops_are ∙ go (eqb (checked r c count tops) 0) refl
  where
    part : ℕ → Part
    part kind = (kind, replicate (size r c kind) 0)

    long : (kind : ℕ) → length {A = ℕ} (replicate (size r c kind) 0) ≡ size r c kind
    long kind = length-replicate {A = ℕ} (size r c kind) 0

    ps : List Part
    ps = given count (part k1) (part k2) (part k3)

    tops : List (ℕ × ℕ)
    tops = given count (sized r c k1) (sized r c k2) (sized r c k3)

    tops_are : heads ps ≡ tops
    tops_are =
        ap heads (given_taken count (part k1) (part k2) (part k3))
        ∙ sym (heads_taken count (part k1 ∷ part k2 ∷ part k3 ∷ []))
        ∙ (λ i. take count ((k1, long k1 i) ∷ (k2, long k2 i) ∷ (k3, long k3 i) ∷ []))
        ∙ sym (given_taken count (sized r c k1) (sized r c k2) (sized r c k3))

    go : (b : Bool) → eqb (checked r c count tops) 0 ≡ b
        → cond (eqb (checked r c count tops) 0) (length (block_of r c ps)) 0 ≡ cond (eqb (checked r c count tops) 0) (length_with count (head_counts tops)) 0
    go true e =
        let few : count ≤ 3 = (checked_dimensions r c count tops (eqb-true (checked r c count tops) 0 e)).few in
        rw (e, whole_length r c ps, tops_are, given_length count (part k1) (part k2) (part k3) few)
    go false e = rw e

-- the code's parts
pub sized_taken : (r c count k1 k2 k3 : ℕ) {s1 s2 s3 : ℕ} → s1 ≡ size r c k1 → s2 ≡ size r c k2 → s3 ≡ size r c k3
    → take count ((k1, s1) ∷ (k2, s2) ∷ (k3, s3) ∷ []) ≡ given count (sized r c k1) (sized r c k2) (sized r c k3)
sized_taken r c count k1 k2 k3 a b d = (λ i. take count ((k1, a i) ∷ (k2, b i) ∷ (k3, d i) ∷ [])) ∙ sym (given_taken count (sized r c k1) (sized r c k2) (sized r c k3))

pub length_refused : (r c count k1 k2 k3 : ℕ) {a : ℕ} → a ≡ checked r c count (given count (sized r c k1) (sized r c k2) (sized r c k3)) → (a ≡ 0 → ⊥) → 0 ≡ length_of r c count k1 k2 k3
length_refused r c count k1 k2 k3 {a} e z = sym (length_by_lem r c count k1 k2 k3 ∙ rw (← e, ne_eqb a 0 z))

pub length_passed : (r c count k1 k2 k3 : ℕ) (hs : List (ℕ × ℕ)) → hs ≡ given count (sized r c k1) (sized r c k2) (sized r c k3) → length hs ≡ count → checked r c count hs ≡ 0
    → 12 + 12 * length hs + 8 * sum_by (λ h. h.1) hs ≡ length_of r c count k1 k2 k3
length_passed r c count k1 k2 k3 hs is l e =
    length_sum hs ∙ sym (length_by_lem r c count k1 k2 k3 ∙ rw (← is, e, l))

-- three parts, whatever type holds them, by kind and count
tops_of : {X : Type 0} (part : X → Part) (n : X → ℕ) → ((x : X) → n x ≡ length (part x).1) → (count : ℕ) (xs : List X) (x y z : X) {a b c : ℕ × ℕ} → length xs ≡ 3
    → a ≡ ((part (get_or xs 0 x)).0, n (get_or xs 0 x)) → b ≡ ((part (get_or xs 1 y)).0, n (get_or xs 1 y)) → c ≡ ((part (get_or xs 2 z)).0, n (get_or xs 2 z))
    → take count (a ∷ b ∷ c ∷ []) ≡ heads (take count (map part xs))
unfolding heads
tops_of part n same count [] x y z l d e f = absurd (omega (arith, l))
tops_of part n same count (p ∷ []) x y z l d e f = absurd (omega (arith, l))
tops_of part n same count (p ∷ q ∷ []) x y z l d e f = absurd (omega (arith, l))
tops_of part n same count (p ∷ q ∷ r ∷ []) x y z l d e f =
    (λ i. take count ((d ∙ ap (λ (k : ℕ). ((part p).0, k)) (same p)) i ∷ (e ∙ ap (λ (k : ℕ). ((part q).0, k)) (same q)) i ∷ (f ∙ ap (λ (k : ℕ). ((part r).0, k)) (same r)) i ∷ []))
    ∙ heads_taken count (part p ∷ part q ∷ part r ∷ [])
tops_of part n same count (p ∷ q ∷ r ∷ s ∷ ss) x y z l d e f = absurd (omega (arith, l))

-- what the writer makes of them
module _ {X : Type 0} (part : X → Part) (n : X → ℕ) (same : (x : X) → n x ≡ length (part x).1) (r c count : ℕ) (xs : List X) (x y z : X) {h1 h2 h3 : ℕ × ℕ} (three : length xs ≡ 3)
    (is1 : h1 ≡ ((part (get_or xs 0 x)).0, n (get_or xs 0 x))) (is2 : h2 ≡ ((part (get_or xs 1 y)).0, n (get_or xs 1 y))) (is3 : h3 ≡ ((part (get_or xs 2 z)).0, n (get_or xs 2 z))) (out : List ℕ) where
  abbrev pub begin : ℕ × List ℕ
  begin = headed r c count (take count (h1 ∷ h2 ∷ h3 ∷ [])) (head_counts (take count (h1 ∷ h2 ∷ h3 ∷ []))) out

  all_taken : count ≤ 3 → length (take count (map part xs)) ≡ count
  all_taken h = length-take-le count (map part xs) (omega (arith, h, length-map xs part, three))

  counts_are : (ys : List X) → bytes_of (map n ys) ≡ bytes_of (head_counts (heads (map part ys)))
  unfolding heads bytes_of
  counts_are [] = refl
  counts_are (y ∷ ys) = rw (same y, counts_are ys)

  started : (a : ℕ) (m : List ℕ) → ◌≡◌ {A = ℕ × List ℕ} (a, m) begin
      → ◌≡◌ {A = ℕ × List ℕ} (a, m) (headed r c count (heads (take count (map part xs))) (head_counts (heads (take count (map part xs)))) out)
  started a m h = h ∙ ap (λ (gs : List (ℕ × ℕ)). headed r c count gs (head_counts gs) out) (tops_of part n same count xs x y z three is1 is2 is3)

  pub put_room : (m : List ℕ) → ◌≡◌ {A = ℕ × List ℕ} (0, m) begin → 12 + 12 * count + bytes_of (map n (take count xs)) ≡ length out
  put_room m h =
      let b = begun r c count (take count (map part xs)) all_taken out 0 m (started 0 m h) refl in
      let e : bytes_of (map n (take count xs)) ≡ bytes_of (head_counts (heads (take count (map part xs)))) = counts_are (take count xs) ∙ rw (take-map part count xs) in
      omega (arith, e, b.room, with_is count (head_counts (heads (take count (map part xs)))))

  pub put_refused : (a : ℕ) (m : List ℕ) → ◌≡◌ {A = ℕ × List ℕ} (a, m) begin → (a ≡ 0 → ⊥)
      → ◌≡◌ {A = Answer × List ℕ} (refused a 0, m) (written r c count (take count (map part xs)) out)
  put_refused a m h = written_refused r c count (take count (map part xs)) all_taken out a m (started a m h)

  pub put_done : (m o : List ℕ) → ◌≡◌ {A = ℕ × List ℕ} (0, m) begin → o ≡ sets m (12 + 12 * count) (numbers_bytes (map part (take count xs)))
      → ◌≡◌ {A = Answer × List ℕ} (done 0, o) (written r c count (take count (map part xs)) out)
  put_done m o h e =
      written_done r c count (take count (map part xs)) all_taken out m o (begun r c count (take count (map part xs)) all_taken out 0 m (started 0 m h) refl)
      (rw (take-map part count xs) e)

-- from bits
pub given_words : (count k1 : ℕ) (p1 : List ℕ) (k2 : ℕ) (p2 : List ℕ) (k3 : ℕ) (p3 : List ℕ)
    → take {A = Part} count ((k1, map (λ w. w) p1) ∷ (k2, map (λ w. w) p2) ∷ (k3, map (λ w. w) p3) ∷ []) ≡ given count (k1, p1) (k2, p2) (k3, p3)
given_words count k1 p1 k2 p2 k3 p3 =
    (λ i. take {A = Part} count ((k1, map-id p1 i) ∷ (k2, map-id p2 i) ∷ (k3, map-id p3 i) ∷ [])) ∙ sym (given_taken count (k1, p1) (k2, p2) (k3, p3))
