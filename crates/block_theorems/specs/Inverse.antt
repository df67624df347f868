-- Reading and writing are inverse: bytes are taken as a content exactly where they are its block, so a content has exactly one block. Laws only.
use Rattle.std.specs.Prelude.{◌≡◌, refl, ◌↔◌, Bool, true, false, cond, List, [], ◌∷◌, ◌++◌, ℕ, zero, suc, ◌+◌, ◌-◌, ◌*◌, ◌≤◌, eqb, length, take, drop}
use Rattle.std.proofs.Common.{sym, ap, ◌∙◌, arith, le-ltb, eq-eqb, eqb-true, length-append, length-drop, take-append-drop, drop-drop}
use Rattle.std.proofs.lemmas.Bool.{eqb-false}
use Rattle.std.proofs.Math.Seq.{drop-length}
use Rattle.answers.specs.Answers.{done, refused}
use Rattle.answers.specs.declared.Answer.{Answer}
use Rattle.octets.specs.Bytes.{three, words_bytes, num, words_at, Bytes}
use Rattle.octets.proofs.BytesLaws.{parts, front, take_two, part_length, three_length, three_spelled, Three, three_taken, words_bytes_length, words_at_length, words_spelled, words_bound, words_taken}
use Rattle.block_read.specs.Content.{Part, size, Parts, Content, heads, entries_bytes, numbers_bytes, block_of}
use Rattle.block_read.specs.Reading.{dimensions, head_answer, entry_answer, entries, behind, answer_of, parts_at, good, reading}
use Rattle.block_read.specs.Reading as reads
use Rattle.block_read.specs.CheckLaws.{size_most, or_else_lem, dimensions_good, dimensions_pass, head_good, head_pass, entry_good, entry_pass, ended_good, ended_pass, Opened, opened, entries_within}
use Rattle.block_write.specs.Writing.{heads_answer, checked, written}
use Rattle.block_write.specs.PutLaws.{bytes_of, counts, heads_length, entries_bytes_length, block_length, with_is}
use Rattle.block_theorems.specs.Sound.{IsBlock, Numbers, Wrote}

-- ---- what is read is what is written

-- so many entries from `at` on that are read stand there as the entries of their parts, and the parts' numbers from off on to the end
pub record Known (t : List ℕ) (r c left at last off : ℕ) : Type 0 where
  pub parts : Parts r c last (parts_at t r c left at off)
  pub count : length (parts_at t r c left at off) ≡ left
  pub tops : take (12 * left) (drop at t) ≡ entries_bytes off (heads (parts_at t r c left at off))
  pub numbers : drop off t ≡ numbers_bytes (parts_at t r c left at off)

pub known : (t : List ℕ) (r c left at last off : ℕ) → Bytes t → at + 12 * left ≤ length t → entries t r c left at last off ≡ 0 → Known t r c left at last off
unfolding entries parts_at heads entries_bytes numbers_bytes
known t r c zero at last off g h e =
    record { parts = tt; count = refl; tops = refl; numbers = rw (← ended_good (length t) off e) (drop-length t) }
known t r c (suc left) at last off g h e =
    let k : ℕ = num 4 t at in
    let n : ℕ = size r c (num 4 t at) in
    let w = or_else_lem (entry_answer t r c at last off) (entries t r c left (at + 12) k (off + 8 * n)) e in
    let a = entry_good t r c at last off w.0 in
    let b = known t r c left (at + 12) k (off + 8 * n) g (omega arith) w.1 in
    let inside : off + 8 * n ≤ length t = entries_within t r c left (at + 12) k (off + 8 * n) w.1 in
    let long : length (words_at t off n) ≡ n = words_at_length t off n in
    let twelve : 12 * suc left ≡ 12 + 12 * left = omega arith in
    record {
      parts = ((a.head.above, a.head.known), (long, words_bound t off n g), b.parts);
      count = ap suc b.count;
      tops = rw twelve (take_two t at 12 (12 * left) ∙ rw (three_spelled t at (omega arith) g, a.offset, a.head.count, long, b.tops));
      numbers = sym (take-append-drop (8 * n) (drop off t)) ∙ rw (words_spelled t off n inside g, drop-drop (8 * n) off t, b.numbers);
    }

-- a block in its three pieces
pieces : (t : List ℕ) (n : ℕ) → t ≡ take 12 (drop 0 t) ++ (take (12 * n) (drop 12 t) ++ drop (12 + 12 * n) t)
pieces t n =
    sym (take-append-drop 12 t)
    ∙ ap (λ (l : List ℕ). take 12 t ++ l) (sym (take-append-drop (12 * n) (drop 12 t)) ∙ ap (λ (l : List ℕ). take (12 * n) (drop 12 t) ++ l) (drop-drop (12 * n) 12 t))

opened_block : (t : List ℕ) → Bytes t → Opened t → IsBlock t (num 4 t 0) (num 4 t 4) (parts_at t (num 4 t 0) (num 4 t 4) (num 4 t 8) 12 (12 + 12 * num 4 t 8))
unfolding block_of
opened_block t g o =
    let n : ℕ = num 4 t 8 in
    let b = known t (num 4 t 0) (num 4 t 4) n 12 0 (12 + 12 * n) g o.second o.rest in
    record {
      content = record { high = o.sized.high; wide = o.sized.wide; few = rw b.count o.sized.few; parts = b.parts };
      bytes = pieces t n ∙ rw (three_spelled t 0 o.first g, b.count, b.tops, b.numbers);
    }

not_good : {a r c : ℕ} {ps : List Part} → reads.refused a ≡ good r c ps → ⊥
not_good e =
    let z : ◌≡◌ {A = ℕ} 0 1 = cc in
    omega arith

-- written-of-read: bytes that are taken are the block of what was read from them
pub written_of_read : (t : List ℕ) (r c : ℕ) (ps : List Part) → Bytes t → reading t ≡ good r c ps → IsBlock t r c ps
unfolding reading
written_of_read t r c ps g = go (eqb (answer_of t) 0) refl
  where
    found : List Part
    found = parts_at t (num 4 t 0) (num 4 t 4) (num 4 t 8) 12 (12 + 12 * num 4 t 8)

    go : (x : Bool) → eqb (answer_of t) 0 ≡ x → cond x (good (num 4 t 0) (num 4 t 4) found) (reads.refused (answer_of t)) ≡ good r c ps → IsBlock t r c ps
    go true a e =
        let b = opened_block t g (opened t (eqb-true (answer_of t) 0 a)) in
        let p : num 4 t 0 ≡ r = cc in
        let q : num 4 t 4 ≡ c = cc in
        let s : found ≡ ps = cc in
        rw (s, p, q) at b
    go false a e = absurd (not_good e)

-- ---- what is written is read

pub back : (t : List ℕ) (r c : ℕ) (ps : List Part) (at last off : ℕ) → r ≤ 256 → c ≤ 256 → Parts r c last ps → off + 524288 * length ps ≤ 2147483648
    → at + 12 * length ps ≤ length t → take (12 * length ps) (drop at t) ≡ entries_bytes off (heads ps) → off ≤ length t → drop off t ≡ numbers_bytes ps
    → (entries t r c (length ps) at last off ≡ 0) × (parts_at t r c (length ps) at off ≡ ps)
unfolding entries parts_at heads entries_bytes numbers_bytes
back t r c [] at last off hr hc ok big room tops in-t numbers =
    (ended_pass (length t) off (omega (arith, sym (length-drop off t) ∙ ap length numbers)), refl)
back t r c (p ∷ ps) at last off hr hc ok big room tops in-t numbers =
    let k : ℕ = p.0 in
    let ws : List ℕ = p.1 in
    let n : ℕ = length p.1 in
    let count : n ≡ size r c k = ok.1.0 in
    let most : size r c k ≤ 65536 = size_most r c k hr hc in
    let twelve : 12 * suc (length ps) ≡ 12 + 12 * length ps = omega arith in
    let h = parts 12 (take 12 (drop at t)) (three k off n) (take (12 * length ps) (drop (at + 12) t)) (entries_bytes (off + 8 * n) (heads ps))
    (part_length t at 12 (omega arith)) (three_length k off n) (sym (take_two t at 12 (12 * length ps)) ∙ (rw twelve at tops)) in
    let f = front t off (8 * n) (words_bytes ws) (numbers_bytes ps) (words_bytes_length ws) numbers in
    let long : length t - off ≡ 8 * n + length (numbers_bytes ps) = sym (length-drop off t) ∙ ap length numbers ∙ length-append (words_bytes ws) (numbers_bytes ps) ∙ rw (words_bytes_length ws) in
    let x = three_taken t at k off n (omega arith) (omega (arith, ok.0.1)) (omega arith) (omega arith) h.0 in
    let e : entry_answer t r c at last off ≡ 0 =
    entry_pass t r c at last off (rw (x.one, x.third) (head_pass r c last k n ok.0.0 ok.0.1 count)) x.two in
    let i = back t r c ps (at + 12) k (off + 8 * n) hr hc ok.2 (omega arith) (omega arith) h.1 (omega arith) f.1 in
    let v : words_at t off n ≡ ws = words_taken t off ws (omega arith) ok.1.1 f.0 in
    (rw (e, x.one, ← count) i.0, rw (x.one, ← count, v, i.1))

zero_answer : (t : List ℕ) (r c n : ℕ) → 12 ≤ length t → Three t 0 r c n → r ≤ 256 → c ≤ 256 → n ≤ 3 → 12 + 12 * n ≤ length t
    → entries t r c n 12 0 (12 + 12 * n) ≡ 0 → answer_of t ≡ 0
unfolding answer_of behind
zero_answer t r c n h x hr hc hn room e =
    rw (le-ltb (length t) 12 h, x.one, x.two, x.third, dimensions_pass r c n hr hc hn, le-ltb (length t) (12 + 12 * n) room, e)

read_good : (t : List ℕ) (r c n : ℕ) (ps : List Part) → 12 ≤ length t → Three t 0 r c n → r ≤ 256 → c ≤ 256 → n ≤ 3 → 12 + 12 * n ≤ length t
    → entries t r c n 12 0 (12 + 12 * n) ≡ 0 → parts_at t r c n 12 (12 + 12 * n) ≡ ps → reading t ≡ good r c ps
unfolding reading
read_good t r c n ps h x hr hc hn room e s =
    rw (eq-eqb (answer_of t) 0 (zero_answer t r c n h x hr hc hn room e), x.one, x.two, x.third, s)

block_is : (r c : ℕ) (ps : List Part) → block_of r c ps ≡ three r c (length ps) ++ (entries_bytes (12 + 12 * length ps) (heads ps) ++ numbers_bytes ps)
unfolding block_of
block_is r c ps = refl

pub accepts : (r c : ℕ) (ps : List Part) → Content r c ps → reading (block_of r c ps) ≡ good r c ps
accepts r c ps ok = go (block_of r c ps) (block_is r c ps) (block_length r c ps ∙ with_is (length ps) (counts ps))
  where
    n : ℕ
    n = length ps

    off : ℕ
    off = 12 + 12 * length ps

    go : (t : List ℕ) → t ≡ three r c n ++ (entries_bytes off (heads ps) ++ numbers_bytes ps) → length t ≡ 12 + 12 * n + bytes_of (counts ps) → reading t ≡ good r c ps
    go t e l =
        let a = front t 0 12 (three r c n) (entries_bytes off (heads ps) ++ numbers_bytes ps) (three_length r c n) e in
        let b = front t 12 (12 * n) (entries_bytes off (heads ps)) (numbers_bytes ps) (entries_bytes_length off (heads ps) ∙ rw (heads_length ps)) a.1 in
        let x = three_taken t 0 r c n (omega arith) (omega (arith, ok.high)) (omega (arith, ok.wide)) (omega (arith, ok.few)) a.0 in
        let i = back t r c ps 12 0 off ok.high ok.wide ok.parts (omega (arith, ok.few)) (omega arith) b.0 (omega arith) b.1 in
        read_good t r c n ps (omega arith) x ok.high ok.wide ok.few (omega arith) i.0 i.1

-- ---- exactly one block for a content, and one content of a block

pub block_read_lem : (t : List ℕ) (r c : ℕ) (ps : List Part) → IsBlock t r c ps → reading t ≡ good r c ps
block_read_lem t r c ps b = ap reading b.bytes ∙ accepts r c ps b.content

-- bytes are read as a content exactly where they are its block
pub exactly : (t : List ℕ) (r c : ℕ) (ps : List Part) → Bytes t → (reading t ≡ good r c ps) ↔ IsBlock t r c ps
exactly t r c ps g = (written_of_read t r c ps g, block_read_lem t r c ps)

-- two blocks that are read as one content are one
pub one_block : (t u : List ℕ) (r c : ℕ) (ps : List Part) → Bytes t → Bytes u → reading t ≡ good r c ps → reading u ≡ good r c ps → t ≡ u
one_block t u r c ps g h a b = (written_of_read t r c ps g a).bytes ∙ sym (written_of_read u r c ps h b).bytes

-- and a block is the block of one content at the most
pub one_content : (t : List ℕ) (r c r' c' : ℕ) (ps ps' : List Part) → IsBlock t r c ps → IsBlock t r' c' ps' → (r ≡ r') × (c ≡ c') × (ps ≡ ps')
one_content t r c r' c' ps ps' a b =
    let e : good r c ps ≡ good r' c' ps' = sym (block_read_lem t r c ps a) ∙ block_read_lem t r' c' ps' b in
    (cc, cc, cc)

-- ---- the writer takes exactly the contents, of parts whose numbers have 64 bits

pub parts_pass : (r c last : ℕ) (ps : List Part) → Parts r c last ps → heads_answer r c last (heads ps) ≡ 0
unfolding heads_answer heads
parts_pass r c last [] ok = refl
parts_pass r c last (p ∷ ps) ok = rw (head_pass r c last p.0 (length p.1) ok.0.0 ok.0.1 ok.1.0) (parts_pass r c p.0 ps ok.2)

pub parts_good : (r c last : ℕ) (ps : List Part) → Numbers ps → heads_answer r c last (heads ps) ≡ 0 → Parts r c last ps
unfolding heads_answer heads
parts_good r c last [] g e = tt
parts_good r c last (p ∷ ps) g e =
    let w = or_else_lem (head_answer r c last p.0 (length p.1)) (heads_answer r c p.0 (heads ps)) e in
    let h = head_good r c last p.0 (length p.1) w.0 in
    ((h.above, h.known), (h.count, g.0), parts_good r c p.0 ps g.1 w.1)

pub content_passes : (r c : ℕ) (ps : List Part) → Content r c ps → checked r c (length ps) (heads ps) ≡ 0
unfolding checked
content_passes r c ps ok = rw (dimensions_pass r c (length ps) ok.high ok.wide ok.few) (parts_pass r c 0 ps ok.parts)

pub passed_content : (r c : ℕ) (ps : List Part) → Numbers ps → checked r c (length ps) (heads ps) ≡ 0 → Content r c ps
unfolding checked
passed_content r c ps g e =
    let w = or_else_lem (dimensions r c (length ps)) (heads_answer r c 0 (heads ps)) e in
    let s = dimensions_good r c (length ps) w.0 in
    record { high = s.high; wide = s.wide; few = s.few; parts = parts_good r c 0 ps g w.1 }

pub writes_exactly : (r c : ℕ) (ps : List Part) → Numbers ps → (checked r c (length ps) (heads ps) ≡ 0) ↔ Content r c ps
writes_exactly r c ps g = (passed_content r c ps g, content_passes r c ps)

-- ---- the calls

-- a content is written, and read back as it was given
pub read_of_written : (r c : ℕ) (ps : List Part) (out : List ℕ) → Content r c ps → length out ≡ length (block_of r c ps)
    → ((written r c (length ps) ps out).0 ≡ done 0) × (reading (written r c (length ps) ps out).1 ≡ good r c ps)
unfolding written
read_of_written r c ps out ok e =
    let z : checked r c (length ps) (heads ps) ≡ 0 = content_passes r c ps ok in (
      rw (eq-eqb (checked r c (length ps) (heads ps)) 0 z, eq-eqb (length out) (length (block_of r c ps)) e),
      rw (eq-eqb (checked r c (length ps) (heads ps)) 0 z, eq-eqb (length out) (length (block_of r c ps)) e) (accepts r c ps ok),
    )

pub written_block : (r c : ℕ) (ps : List Part) (out : List ℕ) → Numbers ps → (written r c (length ps) ps out).0.answer ≡ 0 → Wrote r c ps (written r c (length ps) ps out)
unfolding written
written_block r c ps out g = go (eqb k 0) refl (eqb (length out) (length (block_of r c ps)))
  where
    k : ℕ
    k = checked r c (length ps) (heads ps)

    go : (x : Bool) → eqb k 0 ≡ x → (y : Bool) → (cond {A = Answer × List ℕ} x (cond y (done 0, block_of r c ps) (refused 6 0, out)) (refused k 0, out)).0.answer ≡ 0
        → Wrote r c ps (cond x (cond y (done 0, block_of r c ps) (refused 6 0, out)) (refused k 0, out))
    go true e true h =
        let ok = passed_content r c ps g (eqb-true k 0 e) in
        record { block = record { content = ok; bytes = refl }; back = accepts r c ps ok }
    go true e false h = absurd (omega arith)
    go false e y h = absurd (eqb-false k 0 e h)

-- a block that is taken is written again, byte for byte, from what was read
pub read_then_written : (t out : List ℕ) (r c : ℕ) (ps : List Part) → Bytes t → reading t ≡ good r c ps → length out ≡ length t → written r c (length ps) ps out ≡ (done 0, t)
unfolding written
read_then_written t out r c ps g e l =
    let b = written_of_read t r c ps g e in
    let z : checked r c (length ps) (heads ps) ≡ 0 = content_passes r c ps b.content in
    rw (eq-eqb (checked r c (length ps) (heads ps)) 0 z, eq-eqb (length out) (length (block_of r c ps)) (l ∙ ap length b.bytes)) (ap (λ (x : List ℕ). (done 0, x)) (sym b.bytes))
