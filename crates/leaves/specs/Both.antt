-- Two lists are looked at one after the other: what is found is what is found in the one behind the other. Laws only.
use Rattle.std.specs.Prelude.{◌≡◌, refl, ◌++◌, length, Option, Some, None}
use Rattle.std.specs.Option.{option_or}
use Rattle.std.proofs.Common.{sym, ap, ◌∙◌}
use Rattle.grid.specs.Real.{Vec}
use Rattle.leaves.specs.declared.Bad.{Bad}
use Rattle.leaves.specs.Scan.{first_bad}
use Rattle.leaves.specs.ScanLaws.{behind, scan_both}

pub in_both : (d e : Vec) {a b c r : Option Bad} → a ≡ first_bad d → b ≡ first_bad e → c ≡ behind (length d) b → r ≡ option_or a c → r ≡ first_bad (d ++ e)
in_both d e {a = a} p q s t = t ∙ ap (option_or a) s ∙ ap (λ (b : Option Bad). option_or a (behind (length d) b)) q ∙ ap (λ (a : Option Bad). option_or a (behind (length d) (first_bad e))) p ∙ sym (scan_both d e)

-- the first list decides
pub in_first : (d e : Vec) {a : Option Bad} {bad : Bad} → a ≡ first_bad d → a ≡ Some bad → Some bad ≡ first_bad (d ++ e)
in_first d e p s = in_both d e (sym s ∙ p) refl refl refl

-- or nothing is found in it
pub in_second : (d e : Vec) {a b c : Option Bad} → a ≡ first_bad d → a ≡ None → b ≡ first_bad e → c ≡ behind (length d) b → c ≡ first_bad (d ++ e)
in_second d e p s q t = in_both d e (sym s ∙ p) q t refl
