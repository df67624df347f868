-- T8: a text is read as n, limit and words exactly where it is their writing (`exactly`: `accepts` and `accepted`), and it is the writing of one n, limit and list of words at the most (`one_writing`). Laws only.
use Rattle.std.specs.Prelude.{◌≡◌, Option, Some, None, Bool, true, false, cond, ◌&&◌, ◌↔◌, ltb, eqb, length, get_or, take, drop}
use Rattle.std.proofs.Math.Path.{refl}
use Rattle.std.proofs.Common.{sym, ap, ◌∙◌, not-suc-le-zero, mul-le-mul, add-one, arith, ltb-true, ltb-false, lt-ltb, le-ltb, eqb-true, eq-eqb, length-drop, drop_at, take-add, take_all, drop-drop, ext_get_or}
use Rattle.std.proofs.Math.Logic.{⊎_elim}
use mathlib.Core.List.{List, [], ◌∷◌, ◌++◌, append_assoc}
use Prim.Native.Nat.{ℕ, zero, suc, ◌+◌, ◌*◌, ◌^◌, ◌≤◌, ◌<◌}
use Rattle.std.proofs.Math.ListN.{length-append, get_or-append}
use Rattle.std.proofs.lemmas.List.{get_or_at}
use Rattle.grid.specs.Loop.{every}
use Rattle.grid.specs.LoopLaws.{below_cases, both, every_at, every_all}
use Rattle.octets.specs.Bytes.{byte}
use Rattle.octets.proofs.BytesLaws.{parts, one_of, take_more, part_length}
use Rattle.text.specs.Writing.{digits, number, joined, separator, group, lines, word_of, writing}
use Rattle.text.specs.Reading.{good, bad, ended, line, value_at, number_at, limit_in, head_of, head, digit_at, group_at, word_at, table, words_read, reading_of, reading}
use Rattle.text.specs.Accepts.{Words, Written}
use Rattle.text.specs.declared.Number.{Number}
use Rattle.text.specs.declared.Head.{Head}
use Rattle.text.specs.Laws.{digits_length, horner_bound, spelled, taken}
use Rattle.text.specs.Numbers.{Known, number_known, number_read, number_short, number_long}

-- ---- seventeen bytes a word

pub joined_same : (f g : ℕ → List ℕ) (m : ℕ) → ((k : ℕ) → k < m → f k ≡ g k) → joined f m ≡ joined g m
unfolding joined
joined_same f g zero h = refl
joined_same f g (suc m) h = rw (joined_same f g m (λ k l. h k (omega arith)), h m (omega arith))

pub joined_length : (f : ℕ → List ℕ) (m : ℕ) → ((k : ℕ) → length (f k) ≡ 17) → length (joined f m) ≡ 17 * m
unfolding joined
joined_length f zero h = refl
joined_length f (suc m) h =
    length-append (joined f m) (f m) ∙ rw (joined_length f m h, h m) (omega arith)

-- a list of whole words is its words
pub cut : (u : List ℕ) (m : ℕ) → take (17 * m) u ≡ joined (λ k. take 17 (drop (17 * k) u)) m
unfolding joined
cut u zero = refl
cut u (suc m) =
    let e : 17 * suc m ≡ 17 * m + 17 = omega arith in
    rw e (take-add (17 * m) 17 u ∙ ap (λ (l : List ℕ). l ++ take 17 (drop (17 * m) u)) (cut u m))

pub cut_part : (u : List ℕ) (g : ℕ → List ℕ) (m k : ℕ) → 17 * m ≤ length u → ((k : ℕ) → length (g k) ≡ 17) → take (17 * m) u ≡ joined g m → k < m
    → take 17 (drop (17 * k) u) ≡ g k
unfolding joined
cut_part u g zero k h l e i = absurd (not-suc-le-zero i)
cut_part u g (suc m) k h l e i =
    let f : 17 * suc m ≡ 17 * m + 17 = omega arith in
    let a : take (17 * m) u ++ take 17 (drop (17 * m) u) ≡ joined g m ++ g m = sym (take-add (17 * m) 17 u) ∙ (rw f at e) in
    let w = parts (17 * m) (take (17 * m) u) (joined g m) (take 17 (drop (17 * m) u)) (g m) (part_length u 0 (17 * m) (omega arith)) (joined_length g m l) a in
    ⊎_elim (λ j. cut_part u g m k (omega arith) l w.0 j) (λ (j : k ≡ m). rw j w.1) (below_cases k m i)

pub group_length : (n : ℕ) (w : ℕ → ℕ) (k : ℕ) → length (group n w k) ≡ 17
unfolding group
group_length n w k = length-append (digits 16 16 (w k)) (separator n k ∷ []) ∙ rw (digits_length 16 16 (w k))

pub lines_length : (n : ℕ) (w : ℕ → ℕ) (m : ℕ) → length (lines n w m) ≡ 17 * m
unfolding lines
lines_length n w m = joined_length (group n w) m (group_length n w)

-- the words of a text, from start on
abbrev pub words_at : List ℕ → ℕ → ℕ → ℕ
words_at t start k = word_at t (start + 17 * k)

-- ---- one word

pub word_known : (t : List ℕ) (n start k : ℕ) → start + 17 * k + 17 ≤ length t → group_at t n start k ≡ true
    → take 17 (drop (start + 17 * k) t) ≡ group n (words_at t start) k
unfolding group_at group word_at
word_known t n start k h e =
    let at : ℕ = start + 17 * k in
    let w = both (every (digit_at t at) 16) (eqb (byte t (at + 16)) (separator n k)) e in
    take_more t at 16 (omega arith)
    ∙ ap (λ (l : List ℕ). l ++ (byte t (at + 16) ∷ []))
    (spelled t at 16 (omega arith) (λ i l. ltb-true (value_at t at i) 16 (every_at (digit_at t at) 16 i w.0 l)))
    ∙ ap (λ (b : ℕ). digits 16 16 (words_at t start k) ++ (b ∷ [])) (eqb-true (byte t (at + 16)) (separator n k) w.1)

pub word_read : (t : List ℕ) (n start k : ℕ) (w : ℕ → ℕ) → start + 17 * k + 17 ≤ length t → w k < 2 ^ 64
    → take 17 (drop (start + 17 * k) t) ≡ group n w k → (group_at t n start k ≡ true) × (words_at t start k ≡ w k)
unfolding group_at group word_at
word_read t n start k w h b e =
    let at : ℕ = start + 17 * k in
    let p = parts 16 (take 16 (drop at t)) (digits 16 16 (w k)) (byte t (at + 16) ∷ []) (separator n k ∷ [])
    (part_length t at 16 (omega arith)) (digits_length 16 16 (w k)) (sym (take_more t at 16 (omega arith)) ∙ e) in
    let r = taken t at 16 (w k) (omega arith) b p.0 in
    let d : every (digit_at t at) 16 ≡ true = every_all (digit_at t at) 16 (λ i l. lt-ltb (value_at t at i) 16 (r.1 i l)) in
    (rw (d, eq-eqb (byte t (at + 16)) (separator n k) (one_of (byte t (at + 16)) (separator n k) p.1)), r.0)

-- ---- tables

module _ {A : Type 0} where
  pub table_length : (f : ℕ → A) (m : ℕ) → length (table f m) ≡ m
  unfolding table
  table_length f zero = refl
  table_length f (suc m) = length-append (table f m) (f m ∷ []) ∙ rw (table_length f m, add-one)

  pub table_same : (f g : ℕ → A) (m : ℕ) → ((k : ℕ) → k < m → f k ≡ g k) → table f m ≡ table g m
  unfolding table
  table_same f g zero h = refl
  table_same f g (suc m) h = rw (table_same f g m (λ k l. h k (omega arith)), h m (omega arith))

  pub table_at : (f : ℕ → A) (d : A) (m k : ℕ) → k < m → get_or (table f m) k d ≡ f k
  unfolding table
  table_at f d zero k l = absurd (not-suc-le-zero l)
  table_at f d (suc m) k l = ⊎_elim
      (λ (j : k < m). get_or-append (table f m) (f m ∷ []) d k (rw (table_length f m) j) ∙ table_at f d m k j)
      (λ (j : k ≡ m). rw j (get_or_at (table f m) (f m) [] d m (table_length f m)))
      (below_cases k m l)

pub table_words : (ws : List ℕ) (m : ℕ) → length ws ≡ m → table (word_of ws) m ≡ ws
table_words ws m e =
    ext_get_or 0 (table (word_of ws) m) ws (table_length (word_of ws) m ∙ sym e) (λ i l. table_at (word_of ws) 0 m i (rw (table_length (word_of ws) m) at l))

-- ---- what is written is read

-- word k, of m words that stand behind start
each : (t : List ℕ) (n start m : ℕ) (w : ℕ → ℕ) → length t ≡ start + 17 * m → drop start t ≡ lines n w m → (k : ℕ) → k < m → w k < 2 ^ 64
    → (group_at t n start k ≡ true) × (words_at t start k ≡ w k)
unfolding lines
each t n start m w size e k l b =
    let d : length (drop start t) ≡ 17 * m = length-drop start t ∙ omega arith in
    let whole : take (17 * m) (drop start t) ≡ joined (group n w) m = take_all (17 * m) (drop start t) (omega arith) ∙ e in
    word_read t n start k w (omega arith) b
    (ap (λ (u : List ℕ). take 17 u) (sym (drop-drop (17 * k) start t)) ∙ cut_part (drop start t) (group n w) m k (omega arith) (group_length n w) whole l)

pub accepts : (n limit : ℕ) (ws : List ℕ) → n ≤ 32 → limit < 1000 → length ws ≡ n * n → Words ws → reading (writing n limit ws) ≡ good n limit ws
unfolding writing reading head words_read
accepts n limit ws hn hl hw b =
    rw (first, second, le-ltb 32 n hn, eq-eqb (length t) (start + 17 * (n * n)) size, all) (ap (λ (l : List ℕ). good n limit l) words)
  where
    N : List ℕ
    N = number n 32

    L : List ℕ
    L = number limit 10

    B : List ℕ
    B = lines n (word_of ws) (n * n)

    t : List ℕ
    t = N ++ L ++ B

    start : ℕ
    start = 0 + length N + length L

    first : number_at t 0 32 ≡ ended n (0 + length N)
    first = number_read t 0 32 n (L ++ B) (omega arith) (omega arith) (append_assoc N L B)

    second : number_at t (0 + length N) 10 ≡ ended limit start
    second = number_read t (0 + length N) 10 limit B hl (omega arith)
        (ap (λ (l : List ℕ). drop (0 + length N) l) (append_assoc N L B) ∙ drop_at N (L ++ B) (0 + length N) (omega arith))

    front : length (N ++ L) ≡ start
    front = length-append N L ∙ omega arith

    size : length t ≡ start + 17 * (n * n)
    size = length-append (N ++ L) B ∙ rw (front, lines_length n (word_of ws) (n * n))

    at : (k : ℕ) → k < n * n → (group_at t n start k ≡ true) × (words_at t start k ≡ word_of ws k)
    at k l = each t n start (n * n) (word_of ws) size (drop_at (N ++ L) B start front) k l (b k (omega arith))

    all : every (group_at t n start) (n * n) ≡ true
    all = every_all (group_at t n start) (n * n) (λ k l. (at k l).0)

    words : table (words_at t start) (n * n) ≡ ws
    words = table_same (words_at t start) (word_of ws) (n * n) (λ k l. (at k l).1) ∙ table_words ws (n * n) hw

-- ---- what is read is what is written

pub record FirstLine (t : List ℕ) (n limit start : ℕ) : Type 0 where
  pub size : n ≤ 32
  pub below : limit < 1000
  pub near : start ≤ 8
  pub text : t ≡ number n 32 ++ number limit 10 ++ drop start t

no_line : {n limit start : ℕ} → ◌≡◌ {A = Option Head} None (line n limit start) → ⊥
no_line e =
    let z : ◌≡◌ {A = ℕ} 0 1 = cc in
    omega arith

size_in : Option Head → ℕ
size_in (Some h) = h.n
size_in None = 0

limit_in_line : Option Head → ℕ
limit_in_line (Some h) = h.limit
limit_in_line None = 0

next_in : Option Head → ℕ
next_in (Some h) = h.next
next_in None = 0

first_line_lem : (t : List ℕ) (n limit start i : ℕ) → n ≤ 32 → Known t 0 32 n i → Known t i 10 limit start → FirstLine t n limit start
first_line_lem t n limit start i h a b =
    record {
      size = h;
      below = b.below;
      near = omega arith;
      text = a.text ∙ ap (λ (l : List ℕ). number n 32 ++ l) b.text ∙ sym (append_assoc (number n 32) (number limit 10) (drop start t));
    }

pub head_known : (t : List ℕ) (n limit start : ℕ) → head t ≡ line n limit start → FirstLine t n limit start
unfolding head size_in limit_in_line next_in
head_known t n limit start = go (number_at t 0 32) refl
  where
    known : (i m l s : ℕ) → number_at t 0 32 ≡ ended m i → number_at t i 10 ≡ ended l s → m ≤ 32 → line m l s ≡ line n limit start → FirstLine t n limit start
    known i m l s a b h e =
        let p : m ≡ n = ap size_in e in
        let q : l ≡ limit = ap limit_in_line e in
        let r : s ≡ start = ap next_in e in
        first_line_lem t n limit start i (rw p at h) (number_known t 0 32 n i (omega arith) (rw p at a)) (number_known t i 10 limit start (omega arith) (rw (q, r) at b))

    third : (i m : ℕ) (y : Option Number) (big : Bool) → number_at t 0 32 ≡ ended m i → number_at t i 10 ≡ y → ltb 32 m ≡ big
        → cond big None (limit_in m y) ≡ line n limit start → FirstLine t n limit start
    third i m y true a b c e = absurd (no_line e)
    third i m (Some y) false a b c e = known i m y.value y.next a b (ltb-false 32 m c) e
    third i m None false a b c e = absurd (no_line e)

    go : (x : Option Number) → number_at t 0 32 ≡ x → head_of t x ≡ line n limit start → FirstLine t n limit start
    go (Some x) a e = third x.next x.value (number_at t x.next 10) (ltb 32 x.value) a refl refl e
    go None a e = absurd (no_line e)

pub writing_length : (n limit : ℕ) (ws : List ℕ) → n ≤ 32 → limit < 1000 → length (writing n limit ws) ≤ 17415
unfolding writing
writing_length n limit ws h g =
    let a = number_short n 32 (omega arith) in
    let b = number_long limit 10 g in
    let c : n * n ≤ 1024 = mul-le-mul h h in
    rw (length-append (number n 32 ++ number limit 10) (lines n (word_of ws) (n * n)), length-append (number n 32) (number limit 10), lines_length n (word_of ws) (n * n))
    (omega arith)

word_bound : (t : List ℕ) (n start k : ℕ) → group_at t n start k ≡ true → words_at t start k < 2 ^ 64
unfolding group_at word_at
word_bound t n start k e =
    let at : ℕ = start + 17 * k in
    let w = both (every (digit_at t at) 16) (eqb (byte t (at + 16)) (separator n k)) e in
    horner_bound (value_at t at) 16 (λ i l. ltb-true (value_at t at i) 16 (every_at (digit_at t at) 16 i w.0 l))

same_group : (n : ℕ) (v w : ℕ → ℕ) (k : ℕ) → v k ≡ w k → group n v k ≡ group n w k
unfolding group
same_group n v w k e = ap (λ (x : ℕ). digits 16 16 x ++ (separator n k ∷ [])) e

words_written : (t : List ℕ) (n limit start : ℕ) → FirstLine t n limit start → length t ≡ start + 17 * (n * n) → every (group_at t n start) (n * n) ≡ true
    → Written t n limit (table (words_at t start) (n * n))
unfolding writing lines
words_written t n limit start f size all =
    let m : ℕ = n * n in
    let u : List ℕ = drop start t in
    let ws : List ℕ = table (words_at t start) m in
    let d : length u ≡ 17 * m = length-drop start t ∙ omega arith in
    let is : (k : ℕ) → k < m → words_at t start k ≡ word_of ws k = λ k l. sym (table_at (words_at t start) 0 m k l) in
    let each : (k : ℕ) → k < m → take 17 (drop (17 * k) u) ≡ group n (word_of ws) k =
    λ k l. ap (λ (v : List ℕ). take 17 v) (drop-drop (17 * k) start t) ∙ word_known t n start k (omega arith) (every_at (group_at t n start) m k all l) ∙ same_group n (words_at t start) (word_of ws) k (is k l) in
    record {
      size = f.size;
      below = f.below;
      count = table_length (words_at t start) m;
      words = λ k l. let h : k < m = rw (table_length (words_at t start) m) at l in
          rw (← is k h) (word_bound t n start k (every_at (group_at t n start) m k all h));
      text = f.text ∙ ap (λ (v : List ℕ). number n 32 ++ number limit 10 ++ v)
          (sym (take_all (17 * m) u (omega arith)) ∙ cut u m ∙ joined_same (λ k. take 17 (drop (17 * k) u)) (group n (word_of ws)) m each);
    }

not_good : {n limit : ℕ} {ws : List ℕ} → bad ≡ good n limit ws → ⊥
not_good e =
    let z : ◌≡◌ {A = ℕ} 0 1 = cc in
    omega arith

pub accepted : (t : List ℕ) (n limit : ℕ) (ws : List ℕ) → reading t ≡ good n limit ws → Written t n limit ws
unfolding reading words_read
accepted t n limit ws = go (head t) refl
  where
    known : (m l s : ℕ) → head t ≡ line m l s → (b : Bool) → (eqb (length t) (s + 17 * (m * m)) && every (group_at t m s) (m * m)) ≡ b
        → cond b (good m l (table (words_at t s) (m * m))) bad ≡ good n limit ws → Written t n limit ws
    known m l s h true a e =
        let w = both (eqb (length t) (s + 17 * (m * m))) (every (group_at t m s) (m * m)) a in
        let r = words_written t m l s (head_known t m l s h) (eqb-true (length t) (s + 17 * (m * m)) w.0) w.1 in
        let p : m ≡ n = cc in
        let q : l ≡ limit = cc in
        let x : table (words_at t s) (m * m) ≡ ws = cc in
        rw (x, p, q) at r
    known m l s h false a e = absurd (not_good e)

    go : (h : Option Head) → head t ≡ h → reading_of t h ≡ good n limit ws → Written t n limit ws
    go (Some h) a e = known h.n h.limit h.next a (eqb (length t) (h.next + 17 * (h.n * h.n)) && every (group_at t h.n h.next) (h.n * h.n)) refl e
    go None a e = absurd (not_good e)

pub written_read : (t : List ℕ) (n limit : ℕ) (ws : List ℕ) → Written t n limit ws → reading t ≡ good n limit ws
written_read t n limit ws w = ap reading w.text ∙ accepts n limit ws w.size w.below w.count w.words

-- T8
pub exactly : (t : List ℕ) (n limit : ℕ) (ws : List ℕ) → (reading t ≡ good n limit ws) ↔ Written t n limit ws
exactly t n limit ws = (accepted t n limit ws, written_read t n limit ws)

-- a text is the writing of one n, one limit and one list of words at the most
pub one_writing : (t : List ℕ) (n limit n' limit' : ℕ) (ws ws' : List ℕ) → Written t n limit ws → Written t n' limit' ws'
    → (n ≡ n') × (limit ≡ limit') × (ws ≡ ws')
one_writing t n limit n' limit' ws ws' a b =
    let e : good n limit ws ≡ good n' limit' ws' = sym (written_read t n limit ws a) ∙ written_read t n' limit' ws' b in
    (cc, cc, cc)

-- no text that is read is longer than this, so the front of a longer one, one byte more, is as bad as the whole
pub longest : (t : List ℕ) (n limit : ℕ) (ws : List ℕ) → reading t ≡ good n limit ws → length t ≤ 17415
longest t n limit ws e = within_bound (accepted t n limit ws e)
  where
    within_bound : Written t n limit ws → length t ≤ 17415
    within_bound w = rw (ap length w.text) (writing_length n limit ws w.size w.below)
