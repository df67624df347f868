-- The store of blocks under tile numbers: what each call does, for every input. Definitions only.
--
-- A store is three arrays. `list` has the room, which is the buffer's length at set-up; how many blocks are held; and for each entry a length. `tiles` has
-- for each entry a tile number. `bytes` is the buffer. The first entries, so many as are held, count, in the order in which their blocks stand: the first at the
-- buffer's start, each other right behind the one before it. So no list can say that two blocks overlap, or that a gap lies between them.
-- `entries` is the most blocks that may be held.
use Rattle.std.specs.Prelude.{Bool, true, false, cond, not, ◌&&◌, List, [], ◌∷◌, ℕ, suc, ◌+◌, ◌-◌, ltb, leb, eqb, length, take, drop, get_or, set}
use Rattle.std.proofs.Math.Seq.{paste}
use Rattle.answers.specs.declared.Answer.{Answer}
use Rattle.answers.specs.Answers.{done, refused}

-- the index of the first t, or the length where t is not there
unfoldable pub place : ℕ → List ℕ → ℕ
place t [] = 0
place t (x ∷ l) = cond (eqb x t) 0 (suc (place t l))

-- all numbers of a list together
unfoldable pub sum : List ℕ → ℕ
sum [] = 0
sum (x ∷ l) = x + sum l

-- no number stands twice
unfoldable pub distinct : List ℕ → Bool
distinct [] = true
distinct (x ∷ l) = cond (ltb (place x l) (length l)) false (distinct l)

-- the elements from at + w up to n moved down to at; what lies behind n - w stays
abbrev pub closed : {A : Type 0} → List A → ℕ → ℕ → ℕ → List A
closed l at w n = paste l at (drop (at + w) l) (n - (at + w))

-- the room
abbrev pub room_of : List ℕ → ℕ
room_of list = get_or list 0 0

-- how many blocks are held
abbrev pub held_of : List ℕ → ℕ
held_of list = get_or list 1 0

-- the length of the block in entry k, and where it starts: the lengths of those before it
abbrev pub length_at : List ℕ → ℕ → ℕ
length_at list k = get_or list (2 + k) 0

-- where the block in entry k starts
abbrev pub start_of : List ℕ → ℕ → ℕ
start_of list k = sum (take k (drop 2 list))

-- the three arrays are of the lengths that a set-up with so many entries takes
abbrev pub listed : ℕ → List ℕ → List ℕ → Bool
listed entries list tiles = eqb (length list) (2 + entries) && eqb (length tiles) entries

-- refusal 39 is every store that is not sound: a set-up gives no other room and no other buffer, the parts leave the buffer, or a tile stands twice
unfoldable pub sound : ℕ → List ℕ → List ℕ → List ℕ → Bool
sound entries list tiles bytes =
    listed entries list tiles
    && leb (room_of list) 65536
    && eqb (length bytes) (room_of list)
    && leb (held_of list) entries
    && leb (start_of list (held_of list)) (room_of list)
    && distinct (take (held_of list) tiles)

-- an answer, and the three arrays after the call
abbrev pub Outcome : Type 0
Outcome = Answer × List ℕ × List ℕ × List ℕ

module _ (list tiles bytes : List ℕ) where
  -- the entry of a tile, and whether it has one
  abbrev pub entry_of : ℕ → ℕ
  entry_of t = place t (take (held_of list) tiles)

  -- the tile has an entry
  abbrev pub holds : ℕ → Bool
  holds t = ltb (entry_of t) (held_of list)

  -- refused with a, and the arrays as they were
  abbrev pub kept : ℕ → Outcome
  kept a = (refused a 0, list, tiles, bytes)

  -- a block behind the others
  abbrev pub added : ℕ → List ℕ → Outcome
  added t block =
      let k = held_of list in
      (done 0, set (set list (2 + k) (length block)) 1 (k + 1), set tiles k t, paste bytes (start_of list k) block (length block))

  -- the block in entry k gone, those behind it moved down
  abbrev pub removed : ℕ → Outcome
  removed k =
      let n = held_of list in
      (done 0, set (closed list (2 + k) 1 (2 + n)) 1 (n - 1), closed tiles k 1 n, closed bytes (start_of list k) (length_at list k) (start_of list n))

module _ (entries : ℕ) (list tiles bytes : List ℕ) where
  -- the empty store, whatever the arrays had in them
  unfoldable pub set_up : Answer × List ℕ
  set_up =
      cond (ltb 65536 (length bytes)) (refused 37 0, list)
      (cond (not (listed entries list tiles)) (refused 39 0, list)
      (done 0, set (set list 0 (length bytes)) 1 0))

  -- 39, 31, 33 and 30, in this order; else the block is added
  unfoldable pub put_of : ℕ → List ℕ → Outcome
  put_of t block =
      cond (not (sound entries list tiles bytes)) (kept list tiles bytes 39)
      (cond (holds list tiles bytes t) (kept list tiles bytes 31)
      (cond (leb entries (held_of list)) (kept list tiles bytes 33)
      (cond (ltb (room_of list) (start_of list (held_of list) + length block)) (kept list tiles bytes 30)
      (added list tiles bytes t block))))

  -- the length is the answer's count
  unfoldable pub length_held : ℕ → Answer
  length_held t =
      cond (not (sound entries list tiles bytes)) (refused 39 0)
      (cond (not (holds list tiles bytes t)) (refused 32 0)
      (done (length_at list (entry_of list tiles bytes t))))

  -- the destination after the call is the second part
  unfoldable pub fetch_of : ℕ → List ℕ → Answer × List ℕ
  fetch_of t out =
      cond (not (sound entries list tiles bytes)) (refused 39 0, out)
      (cond (not (holds list tiles bytes t)) (refused 32 0, out)
      (cond (not (eqb (length out) (length_at list (entry_of list tiles bytes t)))) (refused 6 0, out)
      (done 0, take (length out) (drop (start_of list (entry_of list tiles bytes t)) bytes))))

  -- 39, then 32; else the block is removed
  unfoldable pub drop_of : ℕ → Outcome
  drop_of t =
      cond (not (sound entries list tiles bytes)) (kept list tiles bytes 39)
      (cond (not (holds list tiles bytes t)) (kept list tiles bytes 32)
      (removed list tiles bytes (entry_of list tiles bytes t)))
