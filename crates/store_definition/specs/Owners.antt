-- Two owners over one store: what each call does, for every input. Definitions only.
--
-- `list` has the room, and behind it for each owner, 0 and 1, 34 numbers, which are the list of a store with 32 entries: its quota, how many blocks it holds,
-- 32 lengths; and last what room and quotas leave over. Of `tiles` the first 32 are owner 0's, the others owner 1's; of the buffer the first bytes, as many as its quota, are owner 0's,
-- and those behind them, as many as its quota, owner 1's. An owner's call is the store's own call on these three parts. The room, the quotas and what they leave over are the set-up's,
-- and no call changes them: two quotas and what is left over add up to the room, so that none of the four can be another one alone.
use Rattle.std.specs.Prelude.{Bool, cond, not, ◌&&◌, List, ◌++◌, ℕ, ◌+◌, ◌-◌, ◌*◌, ltb, leb, eqb, length, take, drop, get_or, set}
use Rattle.answers.specs.declared.Answer.{Answer}
use Rattle.answers.specs.Answers.{done, refused}
use Rattle.store_definition.specs.Store.{room_of, sound, Outcome, kept, put_of, length_held, fetch_of, drop_of}

-- the n elements from a on
abbrev pub part : List ℕ → ℕ → ℕ → List ℕ
part l a n = take n (drop a l)

-- l with p in place of the n elements from a on
abbrev pub patched : List ℕ → ℕ → ℕ → List ℕ → List ℕ
patched l a n p = take a l ++ (p ++ drop n (drop a l))

-- an owner's quota
abbrev pub quota_of : ℕ → List ℕ → ℕ
quota_of owner list = get_or list (1 + owner * 34) 0

-- where an owner's bytes start: 0, or behind owner 0's
abbrev pub start_for : ℕ → List ℕ → ℕ
start_for owner list = owner * quota_of 0 list

-- the arrays are of the lengths that a set-up takes
abbrev pub listed2 : List ℕ → List ℕ → Bool
listed2 list tiles = eqb (length list) 70 && eqb (length tiles) 64

-- the lengths, the room, the quotas and what they leave over, number 69, are such as a set-up leaves; what else the owners' lists have in them is not looked at
unfoldable pub laid : List ℕ → List ℕ → List ℕ → Bool
laid list tiles bytes =
    listed2 list tiles
    && leb (room_of list) 65536
    && eqb (length bytes) (room_of list)
    && eqb (quota_of 0 list + quota_of 1 list + get_or list 69 0) (room_of list)

-- what is refused before an owner's part is looked at: 34, then 39; else 0
unfoldable pub barred : ℕ → List ℕ → List ℕ → List ℕ → ℕ
barred owner list tiles bytes = cond (not (leb owner 1)) 34 (cond (not (laid list tiles bytes)) 39 0)

module _ (list tiles bytes : List ℕ) where
  -- both stores empty, whatever the arrays had in them
  unfoldable pub set_up2 : ℕ → ℕ → Answer × List ℕ
  set_up2 quota0 quota1 =
      cond (ltb 65536 (length bytes)) (refused 37 0, list)
      (cond (ltb (length bytes) (quota0 + quota1)) (refused 35 0, list)
      (cond (not (listed2 list tiles)) (refused 39 0, list)
      (done 0, set (set (set (set (set (set list 0 (length bytes)) 1 quota0) 2 0) 35 quota1) 36 0) 69 (length bytes - quota0 - quota1))))

module _ (owner : ℕ) (list tiles bytes : List ℕ) where
  -- the owner's part of list
  abbrev pub own_list : List ℕ
  own_list = part list (1 + owner * 34) 34

  -- the owner's part of tiles
  abbrev pub own_tiles : List ℕ
  own_tiles = part tiles (owner * 32) 32

  -- the owner's part of the buffer
  abbrev pub own_bytes : List ℕ
  own_bytes = part bytes (start_for owner list) (quota_of owner list)

  -- what each of its calls asks of its own store
  abbrev pub sound_for : Bool
  sound_for = sound 32 own_list own_tiles own_bytes

  -- an outcome of the owner's store, put back
  abbrev pub back : Outcome → Outcome
  back (a, l, t, b) =
      (a, patched list (1 + owner * 34) 34 l, patched tiles (owner * 32) 32 t, patched bytes (start_for owner list) (quota_of owner list) b)

  -- 34 or 39; else the put of the owner's store
  unfoldable pub put_for : ℕ → List ℕ → Outcome
  put_for t block =
      let no = barred owner list tiles bytes in
      cond (eqb no 0) (back (put_of 32 own_list own_tiles own_bytes t block)) (kept list tiles bytes no)

  -- 34 or 39; else the length in the owner's store
  unfoldable pub length_for : ℕ → Answer
  length_for t =
      let no = barred owner list tiles bytes in
      cond (eqb no 0) (length_held 32 own_list own_tiles own_bytes t) (refused no 0)

  -- 34 or 39, out as it was; else the fetch from the owner's store
  unfoldable pub fetch_for : ℕ → List ℕ → Answer × List ℕ
  fetch_for t out =
      let no = barred owner list tiles bytes in
      cond (eqb no 0) (fetch_of 32 own_list own_tiles own_bytes t out) (refused no 0, out)

  -- 34 or 39; else the drop of the owner's store
  unfoldable pub drop_for : ℕ → Outcome
  drop_for t =
      let no = barred owner list tiles bytes in
      cond (eqb no 0) (back (drop_of 32 own_list own_tiles own_bytes t)) (kept list tiles bytes no)

module _ (list tiles bytes : List ℕ) where
  -- the arrays are such as a set-up and calls leave: both owners' lists are looked at
  unfoldable pub sound_both : Bool
  sound_both = laid list tiles bytes && sound_for 0 list tiles bytes && sound_for 1 list tiles bytes

  -- both stores empty again; where either owner's list is damaged a set-up must come first
  unfoldable pub reset : Answer × List ℕ
  reset = cond (not sound_both) (refused 39 0, list) (done 0, set (set list 2 0) 36 0)
