-- What holds where a tile is taken. Laws only.
use Rattle.std.specs.Prelude.{◌≡◌, refl, Bool, true, false, cond, ℕ, ◌≤◌, ◌<◌, ltb, leb}
use Rattle.std.proofs.Common.{arith, ltb-true, leb-true, lt-ltb, le-leb}
use Rattle.grid.specs.LoopLaws.{both}
use Rattle.tally_definition.specs.Figures.{in_range}
use Rattle.tally_definition.specs.Tallies.{small, fit, refusal}
use Rattle.tally_definition.specs.declared.Tally.{Tally}

pub record Taken (t : Tally) (answer passes : ℕ) : Type 0 where
  pub answers : answer ≤ 15
  pub short : passes ≤ 15360
  pub room : t.tiles < 65536
  pub sum : t.passes ≤ 1006632960
  pub top : t.most ≤ 15360
  pub place : t.first ≤ 65535
  pub each : small t.counts ≡ true

-- 0 comes where both hold
neither : (b c : Bool) → ◌≡◌ {A = ℕ} (cond b (cond c 0 36) 38) 0 → (b ≡ true) × (c ≡ true)
neither true true e = (refl, refl)
neither true false e = absurd (omega arith)
neither false true e = absurd (omega arith)
neither false false e = absurd (omega arith)

pub taken : (t : Tally) (answer passes : ℕ) → refusal t answer passes ≡ 0 → Taken t answer passes
unfolding refusal fit
taken t answer passes e =
    let w = neither (in_range answer passes) (fit t) e in
    let a = both (leb answer 15) (leb passes 15360) w.0 in
    let r = both (ltb t.tiles 65536) _ w.1 in
    let s = both (leb t.passes 1006632960) _ r.1 in
    let m = both (leb t.most 15360) _ s.1 in
    let f = both (leb t.first 65535) (small t.counts) m.1 in
    record {
      answers = leb-true answer 15 a.0;
      short = leb-true passes 15360 a.1;
      room = ltb-true t.tiles 65536 r.0;
      sum = leb-true t.passes 1006632960 s.0;
      top = leb-true t.most 15360 m.0;
      place = leb-true t.first 65535 f.0;
      each = f.1;
    }

pub takes : (t : Tally) (answer passes : ℕ) → Taken t answer passes → refusal t answer passes ≡ 0
unfolding refusal fit
takes t answer passes w =
    rw (
      le-leb answer 15 w.answers,
      le-leb passes 15360 w.short,
      lt-ltb t.tiles 65536 w.room,
      le-leb t.passes 1006632960 w.sum,
      le-leb t.most 15360 w.top,
      le-leb t.first 65535 w.place,
      w.each,
    )
