-- What the marks look at, part by part.
use Rattle.leaves.specs.declared.Bad.{Bad}
use Rattle.std.specs.Prelude.{Option, Some, None}
use mathlib.Core.Path.{◌≡◌, refl, sym, ap, ◌∙◌}
use Prim.Native.Nat.{ℕ, ◌+◌, ◌*◌, ◌≤◌}
use native.Mathlib.Nat.{mul-le-mul}
use native.Mathlib.Omega.{arith}
use lib.ListN.{length, take, drop, length-drop, length-append}
use lib.Seq.{length-take-le}
use Rattle.grid.specs.Real.{Vec, at}
use Rattle.leaves.specs.Scan.{first_bad, by_rows}
use Rattle.leaves.specs.ScanLaws.{behind, Room, room_of_lem}
use Rattle.leaves.specs.FiniteLaws.{by_rows_long}
use Rattle.std.specs.Option.{option_or}
use Rattle.leaves.specs.Both.{in_both}
use Rattle.svd_jacobi_svd_tall.specs.Marks.{factors, values_factors}
use Rattle.svd_jacobi_svd_tall.specs.Sweep.{value_at}
use Rattle.svd_jacobi_svd_tall.specs.SweepLengths.{Sized}

module _ (rows cols : ℕ) (w : Vec) (s : Sized rows cols w) where
  abbrev u : Vec
  u = by_rows cols (take (rows * cols) w)

  abbrev v : Vec
  v = by_rows cols (take (cols * cols) (drop (rows * cols) w))

  abbrev values : Vec
  values = take cols (drop (value_at rows cols 0) w)

  u_long : length u ≡ rows * cols
  u_long = by_rows_long rows cols (take (rows * cols) w) (length-take-le (rows * cols) w (omega (arith, s.whole)))

  v_long : length v ≡ cols * cols
  v_long =
      by_rows_long cols cols (take (cols * cols) (drop (rows * cols) w))
      (length-take-le (cols * cols) (drop (rows * cols) w) (omega (arith, s.whole, length-drop (rows * cols) w)))

  values_long : length values ≡ cols
  values_long = length-take-le cols (drop (value_at rows cols 0) w) (omega (arith, s.whole, length-drop (value_at rows cols 0) w))

  few : (a b : ℕ) → a ≤ 256 → b ≤ 256 → a * b ≤ 65536
  few a b p q = mul-le-mul p q

  pub factors_room : (b : Option Bad) → b ≡ first_bad v → Room (rows * cols) b
  factors_room b e =
      rw e (room_of_lem (rows * cols) (length v) (at v) (omega (arith, v_long, few rows cols s.tall s.wide, few cols cols s.wide s.wide)))

  pub factors_both : {a b c r : Option Bad} → a ≡ first_bad u → b ≡ first_bad v → c ≡ behind (rows * cols) b → r ≡ option_or a c → r ≡ first_bad (factors rows cols w)
  factors_both {b = b} p q g o = in_both u v p q (g ∙ ap (λ (n : ℕ). behind n b) (sym u_long)) o

  pub factors_first : {a : Option Bad} {bad : Bad} → a ≡ first_bad u → a ≡ Some bad → Some bad ≡ first_bad (factors rows cols w)
  factors_first p s = factors_both (sym s ∙ p) refl refl refl

  pub factors_second : {a b c : Option Bad} → a ≡ first_bad u → a ≡ None → b ≡ first_bad v → c ≡ behind (rows * cols) b → c ≡ first_bad (factors rows cols w)
  factors_second p s q g = factors_both (sym s ∙ p) q g refl

  pub all_room : (b : Option Bad) → b ≡ first_bad (factors rows cols w) → Room cols b
  all_room b e =
      rw e (room_of_lem cols (length (factors rows cols w)) (at (factors rows cols w))
      (omega (arith, length-append u v, u_long, v_long, s.wide, few rows cols s.tall s.wide, few cols cols s.wide s.wide)))

  -- the values begin behind both factors
  at_values : (a : Option Bad) → a ≡ first_bad (take cols (drop (rows * cols + cols * cols) w)) → a ≡ first_bad values
  at_values a p =
      let e : rows * cols + cols * cols ≡ value_at rows cols 0 = omega arith in
      p ∙ ap (λ (n : ℕ). first_bad (take cols (drop n w))) e

  pub all_both : {a b c r : Option Bad} → a ≡ first_bad (take cols (drop (rows * cols + cols * cols) w)) → b ≡ first_bad (factors rows cols w) → c ≡ behind cols b → r ≡ option_or a c
      → r ≡ first_bad (values_factors rows cols w)
  all_both {a = a} {b = b} p q g o = in_both values (factors rows cols w) (at_values a p) q (g ∙ ap (λ (n : ℕ). behind n b) (sym values_long)) o

  pub all_first : {a : Option Bad} {bad : Bad} → a ≡ first_bad (take cols (drop (rows * cols + cols * cols) w)) → a ≡ Some bad → Some bad ≡ first_bad (values_factors rows cols w)
  all_first p s = all_both (sym s ∙ p) refl refl refl

  pub all_second : {a b c : Option Bad} → a ≡ first_bad (take cols (drop (rows * cols + cols * cols) w)) → a ≡ None → b ≡ first_bad (factors rows cols w) → c ≡ behind cols b
      → c ≡ first_bad (values_factors rows cols w)
  all_second p s q g = all_both (sym s ∙ p) q g refl
