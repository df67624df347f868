-- Bytes put to a buffer piece by piece are the whole put once. Laws only.
use Rattle.std.proofs.Common.{pow-suc, mul_comm, append_assoc}
use Rattle.std.proofs.Math.Nat.{div-div-eq-div-mul}
use Rattle.std.specs.Prelude.{◌≡◌, ◌-◌, ◌^◌, refl, List, [], ◌∷◌, ◌++◌, map, ℕ, zero, suc, ◌+◌, ◌*◌, ◌/◌, ◌%◌, ◌≤◌, ◌<◌, length, set, take, drop, get_or, Float}
use Rattle.std.proofs.Common.{sym, ap, ◌∙◌, append-nil, not-suc-le-zero, add-zero, zero-add, suc-add, add-suc, add-one, arith, length-append, take-suc, length-take-le}
use Rattle.std.proofs.lemmas.List.{map-append, length-map}
use Rattle.std.proofs.lemmas.List.Edits.{sets, sets-eq}
use Rattle.std.proofs.Math.Seq.{drop-length}
use borrow.Rule.Slice.PartMut.{put_mid, post_of, Post-is}
use Rattle.std.specs.Int.{byte_at, bytes_high_first}
use Rattle.octets.specs.Bytes.{be, three, words_bytes, num, words_at}
use Rattle.octets.specs.Bits.{float}
use Rattle.octets.proofs.BytesLaws.{be_length, words_bytes_length, words_bytes_append, words_at_length}

module _ {A : Type 0} where
  pub sets_append : (l : List A) (i : ℕ) (vs ws : List A) → sets l i (vs ++ ws) ≡ sets (sets l i vs) (i + length vs) ws
  sets_append l i [] ws = rw (add-zero i)
  sets_append l i (a ∷ vs) ws =
      let e : suc i + length vs ≡ i + suc (length vs) = suc-add i (length vs) ∙ sym (add-suc i (length vs)) in
      sets_append (set l i a) (suc i) vs ws ∙ ap (λ (j : ℕ). sets (sets (set l i a) (suc i) vs) j ws) e

  -- one piece, then the next
  pub put_both : (l m n : List A) (i j : ℕ) (vs ws : List A) → i + length vs ≡ j → m ≡ sets l i vs → n ≡ sets m j ws → n ≡ sets l i (vs ++ ws)
  put_both l m n i j vs ws e p q = q ∙ rw (p, ← e) (sym (sets_append l i vs ws))

  -- a list put whole over one of its length
  pub put_whole : (l vs : List A) → length l ≡ length vs → sets l 0 vs ≡ vs
  put_whole l vs e =
      sets-eq vs l 0 (omega arith) ∙ ap (λ (n : ℕ). vs ++ drop n l) (zero-add (length vs) ∙ sym e) ∙ ap (λ (m : List A). vs ++ m) (drop-length l) ∙ append-nil vs

-- ---- one number

-- the byte above
above : (k n : ℕ) → byte_at (suc k) n ≡ byte_at k (n / 256)
above zero n = refl
above (suc k) n = ap (λ (m : ℕ). n / m % 256) (pow-suc 256 (suc k) ∙ mul_comm (256 ^ suc k) 256) ∙ ap (λ (m : ℕ). m % 256) (sym (div-div-eq-div-mul n 256 (256 ^ suc k)))

-- with the lowest byte apart
lowest : (k n : ℕ) → bytes_high_first (suc k) n ≡ bytes_high_first k (n / 256) ++ (n % 256 ∷ [])
lowest zero n = refl
lowest (suc k) n = rw (above k n, lowest k n) refl

pub be_is : (k n : ℕ) → be k n ≡ bytes_high_first k n
unfolding be
be_is zero n = refl
be_is (suc k) n = ap (λ (l : List ℕ). l ++ (n % 256 ∷ [])) (be_is k (n / 256)) ∙ sym (lowest k n)

-- k bytes copied over those from `at` on
pub copied : (l bytes : List ℕ) (at k n : ℕ) → at + k ≤ length l → bytes ≡ bytes_high_first k n → put_mid at (at + k - at) l bytes ≡ sets l at (be k n)
copied l bytes at k n h e =
    let ys = be k n in
    let z : length ys ≡ k = be_length k n in
    let after : post_of at (at + k - at) l ≡ drop (at + length ys) l = Post-is at (at + k) l (omega arith) ∙ ap (λ (m : ℕ). drop (at + m) l) (sym z) in
    ap (λ (m : List ℕ). take at l ++ (m ++ post_of at (at + k - at) l)) (e ∙ sym (be_is k n))
    ∙ ap (λ (m : List ℕ). take at l ++ (ys ++ m)) after
    ∙ sym (append_assoc (take at l) ys (drop (at + length ys) l))
    ∙ sym (sets-eq ys l at (omega arith))

pub three_put : (l m n o : List ℕ) (at a b c : ℕ) → m ≡ sets l at (be 4 a) → n ≡ sets m (at + 4) (be 4 b) → o ≡ sets n (at + 8) (be 4 c) → o ≡ sets l at (three a b c)
unfolding three
three_put l m n o at a b c p q r =
    put_both l n o at (at + 8) (be 4 a ++ be 4 b) (be 4 c)
    (rw (length-append (be 4 a) (be 4 b), be_length 4 a, be_length 4 b))
    (put_both l m n at (at + 4) (be 4 a) (be 4 b) (rw (be_length 4 a)) p q) r

-- ---- words

pub words_none : (l : List ℕ) (at : ℕ) (ws : List ℕ) → l ≡ sets l at (words_bytes (take 0 ws))
unfolding words_bytes
words_none l at ws = refl

word_alone : (w : ℕ) → words_bytes (w ∷ []) ≡ be 8 w
unfolding words_bytes
word_alone w = append-nil (be 8 w)

pub words_more : (l m n : List ℕ) (at i w : ℕ) (ws : List ℕ) → i < length ws → w ≡ get_or ws i 0 → m ≡ sets l at (words_bytes (take i ws))
    → n ≡ sets m (at + 8 * i) (be 8 w) → n ≡ sets l at (words_bytes (take (i + 1) ws))
words_more l m n at i w ws h v e f =
    let whole : words_bytes (take (i + 1) ws) ≡ words_bytes (take i ws) ++ be 8 w =
    rw (add-one) (ap words_bytes (take-suc ws i 0 h) ∙ words_bytes_append (take i ws) (get_or ws i 0 ∷ []) ∙ rw (word_alone (get_or ws i 0), v)) in
    let size : at + length (words_bytes (take i ws)) ≡ at + 8 * i = rw (words_bytes_length (take i ws), length-take-le i ws (omega arith)) in
    rw whole (put_both l m n at (at + 8 * i) (words_bytes (take i ws)) (be 8 w) size e f)

-- ---- doubles

-- one word more
words_last : (t : List ℕ) (at n : ℕ) → words_at t at (suc n) ≡ words_at t at n ++ (num 8 t (at + 8 * n) ∷ [])
unfolding words_at
words_last t at zero = rw (add-zero at)
words_last t at (suc n) =
    let e : at + 8 + 8 * n ≡ at + 8 * suc n = omega arith in
    ap (λ (l : List ℕ). num 8 t at ∷ l) (words_last t (at + 8) n ∙ rw e)

pub floats_none : (t : List ℕ) (l : List Float) → l ≡ sets l 0 (map float (words_at t 0 0))
unfolding words_at
floats_none t l = refl

pub floats_more : (t : List ℕ) (l m n : List Float) (i w : ℕ) (x : Float) → w ≡ num 8 t (8 * i) → x ≡ float w
    → m ≡ sets l 0 (map float (words_at t 0 i)) → n ≡ set m i x → n ≡ sets l 0 (map float (words_at t 0 (i + 1)))
floats_more t l m n i w x v e f g =
    let z : 0 + 8 * i ≡ 8 * i = omega arith in
    let a : map float (words_at t 0 (i + 1)) ≡ map float (words_at t 0 i) ++ (x ∷ []) =
    rw (add-one) (ap (map float) (words_last t 0 i) ∙ map-append float (words_at t 0 i) (num 8 t (0 + 8 * i) ∷ []) ∙ rw (z, ← v, ← e)) in
    let k : 0 + length (map float (words_at t 0 i)) ≡ i = zero-add (length (map float (words_at t 0 i))) ∙ length-map (words_at t 0 i) float ∙ words_at_length t 0 i in
    rw a (put_both l m n 0 i (map float (words_at t 0 i)) (x ∷ []) k f g)

pub floats_whole : (t : List ℕ) (l m : List Float) (i : ℕ) → i ≡ length l → m ≡ sets l 0 (map float (words_at t 0 i)) → m ≡ map float (words_at t 0 (length l))
floats_whole t l m i h e =
    let k : length l ≡ length (map float (words_at t 0 (length l))) = sym (length-map (words_at t 0 (length l)) float ∙ words_at_length t 0 (length l)) in
    (rw h at e) ∙ put_whole l (map float (words_at t 0 (length l))) k

pub map_at : {A B : Type 0} (f : A → B) (l : List A) (i : ℕ) (a : A) (b : B) → i < length l → f (get_or l i a) ≡ get_or (map f l) i b
map_at f [] i a b h = absurd (not-suc-le-zero h)
map_at f (x ∷ xs) zero a b h = refl
map_at f (x ∷ xs) (suc i) a b h = map_at f xs i a b (omega arith)
