-- Moving up by one copy: what the loop of `moved_up` gives is what `copy_within` gives. Laws only.
use Rattle.std.specs.Prelude.{◌≡◌, ℕ, zero, suc, ◌+◌, ◌-◌, ◌<◌, length, drop, set}
use Rattle.std.specs.List.{copy_within}
use Rattle.std.proofs.Common.{sym, ap, ◌∙◌, arith, length-drop}
use Rattle.std.proofs.Math.Seq.{paste, paste-suc}
use Rattle.std.proofs.Math.ListN.{get_or}
use Rattle.std.proofs.lemmas.List.{get_or-drop}
use Rattle.std.specs.Float.Ieee.{nan}
use Rattle.std.proofs.lemmas.List.Edits.{paste_none, drop-paste}
use Rattle.std.proofs.lemmas.Grind.{get_or_after_one}
use Rattle.grid.specs.Loop.{upto}
use Rattle.grid.specs.LoopLaws.{start, next}
use Rattle.grid.specs.Real.{Vec, at}
use Rattle.eigen_tql2.specs.Tql2Steps.{up_step}

pub copied_up : (k : ℕ) (e : Vec) → k < length e → paste e 0 (drop 1 e) k ≡ upto up_step 1 (k + 1) e
copied_up zero e h = sym (paste_none e 0 (drop 1 e)) ∙ start up_step 1 e
copied_up (suc k) e h =
    let p : Vec = paste e 0 (drop 1 e) k in
    let s : k < length (drop 1 e) = omega (arith, length-drop 1 e) in
    let on : suc k + 1 ≡ k + 1 + 1 = omega arith in
    let one : k + 1 - 1 ≡ 0 + k = omega arith in
    let back : at p (k + 1) ≡ get_or (drop 1 e) k nan = ap (at p) (omega arith) ∙ sym (get_or-drop (0 + k) p 1 nan) ∙ ap (λ (l : Vec). get_or l 1 nan) (drop-paste e 0 (drop 1 e) k (omega arith) (omega arith)) ∙ get_or-drop (0 + k) e 1 nan ∙ ap (λ (j : ℕ). get_or e j nan) (omega arith) ∙ sym (get_or_after_one e k nan) in
    let step : paste e 0 (drop 1 e) (suc k) ≡ up_step (k + 1) p = sym (paste-suc e 0 (drop 1 e) k nan (omega arith) s) ∙ (λ i. set p (sym one i) (sym back i)) in
    rw on (next up_step 1 (k + 1) e (omega arith) (copied_up k e (omega arith)) step)

pub moved_by_copy : (n : ℕ) (e : Vec) → 0 < n → length e ≡ n → copy_within e 1 n 0 ≡ upto up_step 1 n e
moved_by_copy n e z h =
    let k : n ≡ n - 1 + 1 = omega arith in
    copied_up (n - 1) e (omega arith) ∙ ap (λ (j : ℕ). upto up_step 1 j e) (sym k)
