-- An owner's parts lie in the arrays where nothing is barred, and what a store's call on them leaves. Lemmas.
use Rattle.std.specs.Prelude.{◌≡◌, true, List, ℕ, ◌+◌, ◌-◌, ◌*◌, ◌≤◌, length}
use Rattle.std.proofs.Common.{ap, ◌∙◌, arith}
use Rattle.std.proofs.Math.Nat.{add-sub_cancel_left}
use Rattle.store_definition.specs.Store.{Outcome}
use Rattle.store_definition.specs.Owners.{part, patched, quota_of, start_for, laid, own_list, own_tiles, own_bytes, back}
use Rattle.store_definition.proofs.LaidLaws.{Laid, laid_facts, start_least, bounded}
use Rattle.store.specs.Parts.{part_for, Lies}
use Rattle.store.specs.declared.quotas.Part.{Part}

-- the ends of the parts lie in the arrays
pub record Fits (owner : ℕ) (list tiles bytes : List ℕ) : Type 0 where
  pub one : owner ≤ 1
  pub lists : length list ≡ 70
  pub tiled : length tiles ≡ 64
  pub starts : start_for owner list ≤ 65536
  pub quota : quota_of owner list ≤ 65536
  pub room : start_for owner list + quota_of owner list ≤ length bytes

module _ (owner : ℕ) (list tiles bytes : List ℕ) where
  fitting : owner ≤ 1 → Laid list tiles bytes → Fits owner list tiles bytes
  fitting h f =
      let s = start_least owner list h in
      let q = bounded owner list h in
      record {
        one = h;
        lists = f.lists;
        tiled = f.tiled;
        starts = omega (arith, f.adding, f.small);
        quota = omega (arith, f.adding, f.small);
        room = omega (arith, f.adding, f.whole);
      }

  pub fits_laid : owner ≤ 1 → laid list tiles bytes ≡ true → Fits owner list tiles bytes
  fits_laid h e = fitting h (laid_facts list tiles bytes e)

-- the owner's part, as the code has it
module _ (owner : ℕ) (list tiles bytes : List ℕ) (p : Part) (e : p ≡ part_for owner list) where
  pub lies : Fits owner list tiles bytes → Lies list tiles bytes p
  lies f = record {
    starts = omega (arith, ap (λ (q : Part). q.list.start) e, f.one);
    listed = omega (arith, ap (λ (q : Part). q.list.end) e, f.lists, f.one);
    tiled = omega (arith, ap (λ (q : Part). q.tiles.end) e, f.tiled, f.one);
    held = omega (arith, ap (λ (q : Part). q.bytes.end) e, f.room);
  }

  -- of a store's call f: from the parts with their lengths as the code has them to the owner's own
  pub own_parts : {X : Type 0} (f : List ℕ → List ℕ → List ℕ → X)
      → f (part list p.list.start (p.list.end - p.list.start)) (part tiles p.tiles.start (p.tiles.end - p.tiles.start)) (part bytes p.bytes.start (p.bytes.end - p.bytes.start))
      ≡ f (own_list owner list tiles bytes) (own_tiles owner list tiles bytes) (own_bytes owner list tiles bytes)
  own_parts f =
      ap (λ (q : Part). f (part list q.list.start (q.list.end - q.list.start)) (part tiles q.tiles.start (q.tiles.end - q.tiles.start)) (part bytes q.bytes.start (q.bytes.end - q.bytes.start))) e
      ∙ (λ i. f (part list (1 + owner * 34) (add-sub_cancel_left (1 + owner * 34) 34 i)) (part tiles (owner * 32) (add-sub_cancel_left (owner * 32) 32 i))
      (part bytes (start_for owner list) (add-sub_cancel_left (start_for owner list) (quota_of owner list) i)))

  -- and what it leaves, put back
  pub put_back : (f : List ℕ → List ℕ → List ℕ → Outcome) (o : Outcome)
      → o ≡ f (part list p.list.start (p.list.end - p.list.start)) (part tiles p.tiles.start (p.tiles.end - p.tiles.start)) (part bytes p.bytes.start (p.bytes.end - p.bytes.start))
      → ◌≡◌ {A = Outcome} (o.0, patched list p.list.start (p.list.end - p.list.start) o.1, patched tiles p.tiles.start (p.tiles.end - p.tiles.start) o.2, patched bytes p.bytes.start (p.bytes.end - p.bytes.start) o.3)
      (back owner list tiles bytes (f (own_list owner list tiles bytes) (own_tiles owner list tiles bytes) (own_bytes owner list tiles bytes)))
  put_back f o g =
      ap (λ (q : Part). (o.0, patched list q.list.start (q.list.end - q.list.start) o.1, patched tiles q.tiles.start (q.tiles.end - q.tiles.start) o.2, patched bytes q.bytes.start (q.bytes.end - q.bytes.start) o.3)) e
      ∙ (λ i. (
        o.0,
        patched list (1 + owner * 34) (add-sub_cancel_left (1 + owner * 34) 34 i) o.1,
        patched tiles (owner * 32) (add-sub_cancel_left (owner * 32) 32 i) o.2,
        patched bytes (start_for owner list) (add-sub_cancel_left (start_for owner list) (quota_of owner list) i) o.3,
      ))
      ∙ ap (back owner list tiles bytes) (g ∙ own_parts f)
