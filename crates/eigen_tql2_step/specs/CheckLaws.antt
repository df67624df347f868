-- What the checks leave of a run still going. Laws only.
-- `Open` is what the code asks of a run that it moves on; no public promise cites it.
use Rattle.std.specs.Prelude.{◌≡◌, Bool, true, false, not, ◌||◌, ℕ, ◌+◌, ◌-◌, ◌*◌, ◌≤◌, ◌<◌, ltb, leb, eqb, length, take, drop}
use Rattle.std.proofs.Common.{sym, ◌∙◌, true≢false, arith, ltb-true, leb-true, eqb-true, ne_eqb, length-drop, take_all}
use Rattle.std.proofs.lemmas.Bool.{not-true, not-false}
use Rattle.grid.specs.Real.{Vec}
use Rattle.grid.specs.LoopLaws.{both}
use Rattle.answers.specs.Checks.{limit_good, edition_good}
use Rattle.answers.specs.ChecksLaws.{limit_right}
use Rattle.eigen_tql2_pass.specs.declared.Run.{Run}
use Rattle.eigen_tql2_step.specs.Checks.{in_range}

-- what a run still going is between steps: where passes have been run at its l it has an m above l, and the count has room
pub record Open (n limit : ℕ) (r : Run) : Type 0 where
  pub going : r.stop ≡ 0
  pub at_most : r.l ≤ n
  pub within : r.m < n
  pub fewer : r.passes < limit
  pub above : (r.passes ≡ 0 → ⊥) → r.l < r.m
  pub counted : r.passes ≤ r.count
  pub bounded : r.count ≤ r.l * limit + r.passes
  pub unmarked : r.index ≡ 0

either : (a b : Bool) → (a || b) ≡ true → (a ≡ false → b ≡ true)
either true b h q = absurd (true≢false q)
either false b h q = h

pub record Past (n limit : ℕ) (r : Run) : Type 0 where
  pub some : 0 < n
  pub small : n ≤ 256
  pub few : limit ≤ 60
  pub near : r.l ≤ n
  pub opens : r.stop ≡ 0 → Open n limit r

pub range_past : (n limit edition : ℕ) (r : Run) → in_range n limit edition r ≡ true → Past n limit r
unfolding in_range
range_past n limit edition r t =
    let a = both (leb 1 n) _ t in
    let b = both (leb n 256) _ a.1 in
    let c = both (limit_good limit) _ b.1 in
    let j = both (edition_good edition) _ c.1 in
    let d = both (leb r.l n) _ j.1 in
    let e = both (ltb r.m n) _ d.1 in
    let f = both (ltb r.passes limit) _ e.1 in
    let g = both (leb r.passes r.count) _ f.1 in
    let h = both (leb r.count (r.l * limit + r.passes)) _ g.1 in
    let i = both (eqb r.index 0) _ h.1 in
    record {
      some = leb-true 1 n a.0;
      small = leb-true n 256 b.0;
      few = (limit_right limit c.0).1;
      near = leb-true r.l n d.0;
      opens = λ s. record {
        going = s;
        at_most = leb-true r.l n d.0;
        within = ltb-true r.m n e.0;
        fewer = ltb-true r.passes limit f.0;
        above = λ q. ltb-true r.l r.m (either (eqb r.passes 0) _ i.1 (ne_eqb r.passes 0 q));
        counted = leb-true r.passes r.count g.0;
        bounded = leb-true r.count (r.l * limit + r.passes) h.0;
        unmarked = eqb-true r.index 0 i.0;
      };
    }

-- what the code's checks before `sound` leave
pub sound_room : (n limit edition : ℕ) (r : Run) (len : ℕ) {b c : Bool} → b ≡ eqb len (n + n * n) → b ≡ true → c ≡ in_range n limit edition r → c ≡ true → (0 < n) × (r.l ≤ n) × (n ≤ len)
sound_room n limit edition r len f g h i =
    let t : in_range n limit edition r ≡ true = sym h ∙ i in
    let p = range_past n limit edition r t in
    let e : len ≡ n + n * n = eqb-true len (n + n * n) (sym f ∙ g) in
    (p.some, p.near, omega arith)

pub limit_within : (limit : ℕ) {g : Bool} → g ≡ limit_good limit → g ≡ true → limit ≤ 60
limit_within limit e h = (limit_right limit (sym e ∙ h)).1

-- ---- the part of a list from l on

pub from_on : (l : ℕ) (xs : Vec) → l ≤ length xs → take (length xs - l) (drop l xs) ≡ drop l xs
from_on l xs h = take_all (length xs - l) (drop l xs) (omega (arith, length-drop l xs))

-- ---- a test that is made by a call: b is what came back, and c what it is

pub holds : {b : Bool} (c : Bool) → b ≡ c → not b ≡ false → c ≡ true
holds c e h = sym e ∙ not-false _ h

pub fails : {b : Bool} (c : Bool) → b ≡ c → not b ≡ true → c ≡ false
fails c e h = sym e ∙ not-true _ h
