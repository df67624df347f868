-- Where an owner's parts of list, tiles and bytes lie, and where a tile's block lies in them. Definitions only.
use Rattle.std.specs.Prelude.{List, ℕ, ◌+◌, ◌*◌, ◌≤◌, ◌<◌, length}
use Rattle.store_definition.specs.Store.{held_of, start_of, length_at}
use Rattle.store_definition.specs.Owners.{quota_of, start_for}
use Rattle.store.specs.declared.quotas.Part.{Part}

abbrev pub part_for : ℕ → List ℕ → Part
part_for owner list = record {
  list = record { start = 1 + owner * 34; end = 1 + owner * 34 + 34 };
  tiles = record { start = owner * 32; end = owner * 32 + 32 };
  bytes = record { start = start_for owner list; end = start_for owner list + quota_of owner list };
}

-- a part lies in the arrays
pub record Lies (list tiles bytes : List ℕ) (p : Part) : Type 0 where
  pub starts : p.list.start ≤ 35
  pub listed : p.list.end ≤ length list
  pub tiled : p.tiles.end ≤ length tiles
  pub held : p.bytes.end ≤ length bytes

-- entry k is one of those held, and its block lies in the buffer
pub record LiesAt (list tiles bytes : List ℕ) (k : ℕ) : Type 0 where
  pub below : k < held_of list
  pub listed : 2 + held_of list ≤ length list
  pub tiled : held_of list ≤ length tiles
  pub start : start_of list k + length_at list k ≤ length bytes
  pub used : start_of list (held_of list) ≤ length bytes
  pub few : length bytes ≤ 65536
