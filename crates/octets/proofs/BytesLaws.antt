-- What is written as bytes is read back, and bytes that are read are what is written. Laws only.
use Rattle.std.specs.Prelude.{◌≡◌, refl, List, [], ◌∷◌, ◌++◌, ℕ, zero, suc, ◌+◌, ◌*◌, ◌/◌, ◌%◌, ◌^◌, ◌≤◌, ◌<◌, length, get_or, take, drop}
use Rattle.std.proofs.Common.{sym, ap, ◌∙◌, append_assoc, not-suc-le-zero, pow-suc, add-one, arith, length-append, length-drop, take_at, drop_at, take-suc, get_or-drop, length-take-le, take-add, drop-drop}
use Rattle.octets.specs.Bytes.{be, three, words_bytes, byte, num, words_at, Bytes}

-- ---- lists

-- two lists in two parts each, the first parts of one length
pub parts : {A : Type 0} (k : ℕ) (xs zs ys ws : List A) → length xs ≡ k → length zs ≡ k → xs ++ ys ≡ zs ++ ws → (xs ≡ zs) × (ys ≡ ws)
parts {A} k xs zs ys ws p q e =
    (sym (take_at xs ys k p) ∙ ap (λ (l : List A). take k l) e ∙ take_at zs ws k q, sym (drop_at xs ys k p) ∙ ap (λ (l : List A). drop k l) e ∙ drop_at zs ws k q)

pub one_of : (a b : ℕ) → ◌≡◌ {A = List ℕ} (a ∷ []) (b ∷ []) → a ≡ b
one_of a b e = ap (λ (l : List ℕ). get_or l 0 0) e

-- one byte more of a block from `at` on
pub take_more : (t : List ℕ) (at k : ℕ) → at + k < length t → take (suc k) (drop at t) ≡ take k (drop at t) ++ (byte t (at + k) ∷ [])
take_more t at k h =
    take-suc (drop at t) k 0 (rw (length-drop at t) (omega arith)) ∙ ap (λ (b : ℕ). take k (drop at t) ++ (b ∷ [])) (get_or-drop at t k 0)

pub part_length : (t : List ℕ) (at k : ℕ) → at + k ≤ length t → length (take k (drop at t)) ≡ k
part_length t at k h = length-take-le k (drop at t) (rw (length-drop at t) (omega arith))

-- two parts, one behind the other, are one
pub take_two : (t : List ℕ) (at k m : ℕ) → take (k + m) (drop at t) ≡ take k (drop at t) ++ take m (drop (at + k) t)
take_two t at k m = take-add k m (drop at t) ∙ ap (λ (l : List ℕ). take k (drop at t) ++ take m l) (drop-drop k at t)

-- what stands from `at` on starts with xs, and goes on behind it
pub front : (t : List ℕ) (at k : ℕ) (xs ys : List ℕ) → length xs ≡ k → drop at t ≡ xs ++ ys → (take k (drop at t) ≡ xs) × (drop (at + k) t ≡ ys)
front t at k xs ys p e =
    (ap (λ (l : List ℕ). take k l) e ∙ take_at xs ys k p, sym (drop-drop k at t) ∙ ap (λ (l : List ℕ). drop k l) e ∙ drop_at xs ys k p)

-- ---- one number

pub be_length : (k n : ℕ) → length (be k n) ≡ k
unfolding be
be_length zero n = refl
be_length (suc k) n = length-append (be k (n / 256)) (n % 256 ∷ []) ∙ rw (be_length k (n / 256), add-one)

pub num_bound : (t : List ℕ) (at k : ℕ) → Bytes t → num k t at < 256 ^ k
unfolding num
num_bound t at zero h = omega arith
num_bound t at (suc k) h =
    let a : num k t at < 256 ^ k = num_bound t at k h in
    let b : byte t (at + k) < 256 = h (at + k) in
    rw (pow-suc 256 k) (omega arith)

-- bytes that stand in a block are the bytes of their number
pub spelled : (t : List ℕ) (at k : ℕ) → at + k ≤ length t → Bytes t → take k (drop at t) ≡ be k (num k t at)
unfolding be num
spelled t at zero h g = refl
spelled t at (suc k) h g =
    let v : ℕ = byte t (at + k) in
    let w : ℕ = num k t at in
    let b : v < 256 = g (at + k) in
    let q : (w * 256 + v) / 256 ≡ w = omega arith in
    let r : (w * 256 + v) % 256 ≡ v = omega arith in
    take_more t at k (omega arith)
    ∙ ap (λ (l : List ℕ). l ++ (byte t (at + k) ∷ [])) (spelled t at k (omega arith) g)
    ∙ sym (ap (λ (x : ℕ). be k x ++ ((w * 256 + v) % 256 ∷ [])) q ∙ ap (λ (x : ℕ). be k w ++ (x ∷ [])) r)

-- and the bytes of a number are read as that number
pub taken : (t : List ℕ) (at k n : ℕ) → at + k ≤ length t → n < 256 ^ k → take k (drop at t) ≡ be k n → num k t at ≡ n
unfolding be num
taken t at zero n h b e = omega arith
taken t at (suc k) n h b e =
    let w = parts k (take k (drop at t)) (be k (n / 256)) (byte t (at + k) ∷ []) (n % 256 ∷ [])
    (part_length t at k (omega arith)) (be_length k (n / 256)) (sym (take_more t at k (omega arith)) ∙ e) in
    let v : byte t (at + k) ≡ n % 256 = one_of (byte t (at + k)) (n % 256) w.1 in
    let c : n < 256 ^ k * 256 = rw (pow-suc 256 k) at b in
    let g : num k t at ≡ n / 256 = taken t at k (n / 256) (omega arith) (omega arith) w.0 in
    omega arith

-- ---- three

pub three_length : (a b c : ℕ) → length (three a b c) ≡ 12
unfolding three
three_length a b c =
    length-append (be 4 a ++ be 4 b) (be 4 c) ∙ rw (length-append (be 4 a) (be 4 b), be_length 4 a, be_length 4 b, be_length 4 c)

pub three_spelled : (t : List ℕ) (at : ℕ) → at + 12 ≤ length t → Bytes t → take 12 (drop at t) ≡ three (num 4 t at) (num 4 t (at + 4)) (num 4 t (at + 8))
unfolding three
three_spelled t at h g =
    let e : at + 4 + 4 ≡ at + 8 = omega arith in
    take_two t at 8 4
    ∙ ap (λ (l : List ℕ). l ++ take 4 (drop (at + 8) t)) (take_two t at 4 4)
    ∙ rw (spelled t at 4 (omega arith) g, spelled t (at + 4) 4 (omega arith) g, spelled t (at + 8) 4 (omega arith) g)

pub record Three (t : List ℕ) (at a b c : ℕ) : Type 0 where
  pub one : num 4 t at ≡ a
  pub two : num 4 t (at + 4) ≡ b
  pub third : num 4 t (at + 8) ≡ c

pub three_taken : (t : List ℕ) (at a b c : ℕ) → at + 12 ≤ length t → a < 2 ^ 32 → b < 2 ^ 32 → c < 2 ^ 32 → take 12 (drop at t) ≡ three a b c → Three t at a b c
unfolding three
three_taken t at a b c h ha hb hc e =
    let l8 : length (be 4 a ++ be 4 b) ≡ 8 = length-append (be 4 a) (be 4 b) ∙ rw (be_length 4 a, be_length 4 b) in
    let w = parts 8 (take 8 (drop at t)) (be 4 a ++ be 4 b) (take 4 (drop (at + 8) t)) (be 4 c) (part_length t at 8 (omega arith)) l8 (sym (take_two t at 8 4) ∙ e) in
    let v = parts 4 (take 4 (drop at t)) (be 4 a) (take 4 (drop (at + 4) t)) (be 4 b) (part_length t at 4 (omega arith)) (be_length 4 a) (sym (take_two t at 4 4) ∙ w.0) in
    record {
      one = taken t at 4 a (omega arith) ha v.0;
      two = taken t (at + 4) 4 b (omega arith) hb v.1;
      third = taken t (at + 8) 4 c (omega arith) hc w.1;
    }

-- ---- words

pub words_bytes_length : (ws : List ℕ) → length (words_bytes ws) ≡ 8 * length ws
unfolding words_bytes
words_bytes_length [] = refl
words_bytes_length (w ∷ ws) = length-append (be 8 w) (words_bytes ws) ∙ rw (be_length 8 w, words_bytes_length ws) (omega arith)

pub words_bytes_append : (vs ws : List ℕ) → words_bytes (vs ++ ws) ≡ words_bytes vs ++ words_bytes ws
unfolding words_bytes
words_bytes_append [] ws = refl
words_bytes_append (v ∷ vs) ws = ap (λ (l : List ℕ). be 8 v ++ l) (words_bytes_append vs ws) ∙ sym (append_assoc (be 8 v) (words_bytes vs) (words_bytes ws))

pub words_at_length : (t : List ℕ) (at n : ℕ) → length (words_at t at n) ≡ n
unfolding words_at
words_at_length t at zero = refl
words_at_length t at (suc n) = ap suc (words_at_length t (at + 8) n)

pub words_spelled : (t : List ℕ) (at n : ℕ) → at + 8 * n ≤ length t → Bytes t → take (8 * n) (drop at t) ≡ words_bytes (words_at t at n)
unfolding words_at words_bytes
words_spelled t at zero h g = refl
words_spelled t at (suc n) h g =
    let e : 8 * suc n ≡ 8 + 8 * n = omega arith in
    rw e (take_two t at 8 (8 * n) ∙ rw (spelled t at 8 (omega arith) g, words_spelled t (at + 8) n (omega arith) g))

pub words_bound : (t : List ℕ) (at n : ℕ) → Bytes t → (i : ℕ) → i < length (words_at t at n) → get_or (words_at t at n) i 0 < 2 ^ 64
unfolding words_at
words_bound t at zero g i h = absurd (not-suc-le-zero h)
words_bound t at (suc n) g zero h = num_bound t at 8 g
words_bound t at (suc n) g (suc i) h = words_bound t (at + 8) n g i (omega arith)

pub words_taken : (t : List ℕ) (at : ℕ) (ws : List ℕ) → at + 8 * length ws ≤ length t → ((i : ℕ) → i < length ws → get_or ws i 0 < 2 ^ 64)
    → take (8 * length ws) (drop at t) ≡ words_bytes ws → words_at t at (length ws) ≡ ws
unfolding words_at words_bytes
words_taken t at [] h b e = refl
words_taken t at (w ∷ ws) h b e =
    let f : 8 * length (w ∷ ws) ≡ 8 + 8 * length ws = omega arith in
    let p = parts 8 (take 8 (drop at t)) (be 8 w) (take (8 * length ws) (drop (at + 8) t)) (words_bytes ws)
    (part_length t at 8 (omega arith)) (be_length 8 w) (sym (take_two t at 8 (8 * length ws)) ∙ (rw f at e)) in
    let v : num 8 t at ≡ w = taken t at 8 w (omega arith) (b 0 (omega arith)) p.0 in
    let r : words_at t (at + 8) (length ws) ≡ ws = words_taken t (at + 8) ws (omega arith) (λ i l. b (suc i) (omega arith)) p.1 in
    rw (v, r)
