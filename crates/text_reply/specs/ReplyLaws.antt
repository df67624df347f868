-- No answer is longer than 18036 bytes (`reply_most`, `counts`), and what the reader leaves at the front of an array is the matrix (`is_good`). Laws only.
use Rattle.std.specs.Prelude.{◌≡◌, refl, Option, Some, None, List, ◌∷◌, map, ℕ, zero, suc, ◌+◌, ◌*◌, ◌≤◌, length, take, drop}
use Rattle.std.proofs.Common.{sym, ap, ◌∙◌, not-suc-le-zero, le_of_suc-le-suc, mul-le-mul, arith, length-take-le, take_at}
use Rattle.std.proofs.lemmas.List.{length-map}
use Rattle.std.proofs.lemmas.List.Edits.{sets, sets-eq}
use Rattle.std.proofs.Math.Seq.{length-sets}
use Rattle.grid.specs.Real.{Vec, zero64, zeros}
use Rattle.eigen_symmetric_eigen.specs.SymmetricEigen.{eigen}
use Rattle.text.specs.declared.Reading.{Reading}
use Rattle.text.specs.Reading.{Text, good, bad, reading, outcome}
use Rattle.octets.specs.Bits.{float}
use Rattle.text.specs.Accepts.{Written}
use Rattle.text.specs.AcceptsLaws.{accepted}
use Rattle.text.specs.Writing.{bad_text, written}
use Rattle.text.specs.Stores.{words_most, answer_most}
use Rattle.text_reply.specs.Reply.{shown_of, solved, reply_of, reply}

-- ---- sizes

bad_length : length bad_text ≤ 18036
unfolding bad_text
bad_length = omega arith

reply_of_most : (x : Text) → length (reply_of x) ≤ 18036
unfolding solved
reply_of_most (good n limit ws) =
    let x = eigen n limit 1 (map float ws) (zeros n) (zeros (n + n * n)) in
    answer_most x.0.answer x.0.place x.0.index x.0.count n x.2
reply_of_most bad = bad_length

-- no answer is longer than this
pub reply_most : (t : List ℕ) → length (reply t) ≤ 18036
unfolding reply
reply_most t = reply_of_most (reading t)

-- a buffer with room for every answer holds the whole of this one at its front
pub counts : (t out new : List ℕ) (r : ℕ) → 18036 ≤ length out → ◌≡◌ {A = ℕ × List ℕ} (r, new) (written (reply t) out) → (r ≤ length new) × (r ≡ length (take r new))
counts t out new r h e =
    let a : r ≡ length (reply t) = ap (λ (s : ℕ × List ℕ). s.0) e in
    let b : length new ≡ length out = ap (λ (s : ℕ × List ℕ). length s.1) e ∙ length-sets out 0 (reply t) in
    let f : r ≤ length new = omega (arith, reply_most t) in
    (f, sym (length-take-le r new f))

-- ---- what the reader leaves at the front of an array is the matrix

pub zeros_front : (n m : ℕ) → n ≤ m → take n (zeros m) ≡ zeros n
zeros_front zero m h = refl
zeros_front (suc n) zero h = absurd (not-suc-le-zero h)
zeros_front (suc n) (suc m) h = ap (λ (l : Vec). zero64 ∷ l) (zeros_front n m (le_of_suc-le-suc h))

pub solved_front : (n limit : ℕ) (a : Vec) → n ≤ 32 → shown_of n (eigen n limit 1 a (take n (zeros 32)) (take (n + n * n) (zeros 1056))) ≡ solved n limit a
unfolding solved
solved_front n limit a h =
    ap (λ (w : Vec). shown_of n (eigen n limit 1 a w (take (n + n * n) (zeros 1056)))) (zeros_front n 32 h)
    ∙ ap (λ (r : Vec). shown_of n (eigen n limit 1 a (zeros n) r)) (zeros_front (n + n * n) 1056 (words_most n h))

front : (old vs : Vec) (k : ℕ) → length vs ≡ k → k ≤ length old → take k (sets old 0 vs) ≡ vs
front old vs k e h = ap (λ (l : Vec). take k l) (sets-eq vs old 0 (omega arith)) ∙ take_at vs (drop (0 + length vs) old) k e

-- x and new are what reading t into old answered and left: n, at most 32, and n·n numbers, for which the answer is that to t
pub record Read (t : List ℕ) (n limit : ℕ) (new : Vec) : Type 0 where
  pub size : n ≤ 32
  pub room : n * n ≤ length new
  pub answer : solved n limit (take (n * n) new) ≡ reply t

-- what a good text is answered
abbrev pub read : ℕ → ℕ → Option Reading
read n limit = Some (record { n = n; limit = limit })

n_in : Option Reading → ℕ
n_in (Some r) = r.n
n_in None = 0

limit_in : Option Reading → ℕ
limit_in (Some r) = r.limit
limit_in None = 0

read_good : (t : List ℕ) (old new : Vec) (x : Option Reading) (n limit : ℕ) (y : Text) → 1024 ≤ length old → reading t ≡ y → ◌≡◌ {A = Option Reading × Vec} (x, new) (outcome y old)
    → x ≡ read n limit → Read t n limit new
unfolding reply n_in limit_in
read_good t old new x n limit (good m l ws) h a e g =
    let w : Written t m l ws = accepted t m l ws a in
    let i : ◌≡◌ {A = Option Reading} (read m l) (read n limit) = sym (ap (λ (p : Option Reading × Vec). p.0) e) ∙ g in
    let p : m ≡ n = ap n_in i in
    let q : l ≡ limit = ap limit_in i in
    let f : new ≡ sets old 0 (map float ws) = ap (λ (p : Option Reading × Vec). p.1) e in
    let s : m * m ≤ 1024 = mul-le-mul w.size w.size in
    let k : length (map float ws) ≡ m * m = length-map ws float ∙ w.count in
    let r : Read t m l new = record {
      size = w.size;
      room = rw f (rw (length-sets old 0 (map float ws)) (omega arith));
      answer = rw (f, front old (map float ws) (m * m) k (omega arith), a);
    } in
    rw (p, q) at r
read_good t old new x n limit bad h a e g =
    let i : ◌≡◌ {A = Option Reading} None (read n limit) = sym (ap (λ (p : Option Reading × Vec). p.0) e) ∙ g in
    let z : ◌≡◌ {A = ℕ} 0 1 = cc in
    absurd (omega arith)

read_bad : (t : List ℕ) (old new : Vec) (x : Option Reading) (y : Text) → reading t ≡ y → ◌≡◌ {A = Option Reading × Vec} (x, new) (outcome y old) → x ≡ None → bad_text ≡ reply t
unfolding reply
read_bad t old new x (good m l ws) a e g =
    let i : ◌≡◌ {A = Option Reading} (read m l) None = sym (ap (λ (p : Option Reading × Vec). p.0) e) ∙ g in
    let z : ◌≡◌ {A = ℕ} 0 1 = cc in
    absurd (omega arith)
read_bad t old new x bad a e g = rw a

pub is_good : (t : List ℕ) (old new : Vec) (x : Option Reading) (n limit : ℕ) → 1024 ≤ length old → ◌≡◌ {A = Option Reading × Vec} (x, new) (outcome (reading t) old)
    → x ≡ read n limit → Read t n limit new
is_good t old new x n limit h e g = read_good t old new x n limit (reading t) h refl e g

pub is_bad_lem : (t : List ℕ) (old new : Vec) (x : Option Reading) → ◌≡◌ {A = Option Reading × Vec} (x, new) (outcome (reading t) old) → x ≡ None → bad_text ≡ reply t
is_bad_lem t old new x e g = read_bad t old new x (reading t) refl e g
