use Rattle.std.specs.Prelude.{◌≡◌, ℕ, ◌-◌, ◌≤◌, ◌<◌, Float, length, drop, reverse}
use Rattle.std.proofs.Common.{sym, ap, ◌∙◌, arith, get_or-take, get_or-drop}
use Rattle.std.proofs.lemmas.List.{ext_get_or, get_or-reverse, length-reverse}
use Rattle.std.specs.Float.{nan}
use Rattle.grid.specs.Real.{Vec, at}
use Rattle.grid.specs.Table.{table, part}
use Rattle.grid.specs.TableLaws.{length_part, length_table, at_table}
use Rattle.leading.proofs.values.Goals as goal

-- the last k of n, the other way round
backwards : (n k : ℕ) (v : Vec) → k ≤ n → n ≤ length v → reverse (part (n - k) n v) ≡ table (λ t. at v (n - 1 - t)) k
backwards n k v h l = ext_get_or nan (reverse x) (table f k) (long ∙ sym (length_table f k)) (λ t p. same t (omega (arith, p, long)))
  where
    x : Vec
    x = part (n - k) n v

    f : ℕ → Float
    f t = at v (n - 1 - t)

    few : length x ≡ k
    few = length_part (n - k) n v (omega arith) l ∙ omega arith

    long : length (reverse x) ≡ k
    long = length-reverse x ∙ few

    same : (t : ℕ) → t < k → at (reverse x) t ≡ at (table f k) t
    same t p =
        get_or-reverse x t nan (omega (arith, few))
        ∙ get_or-take (n - (n - k)) (drop (n - k) v) (length x - 1 - t) nan (omega (arith, few))
        ∙ get_or-drop (n - k) v (length x - 1 - t) nan
        ∙ ap (at v) (omega (arith, few))
        ∙ sym (at_table f k t p)

pub returns : goal.returns
returns c = c.reverse.ensures.after ∙ ap reverse c.copy_from_slice.ensures.after ∙ backwards c.args.n c.args.k c.args.v.now c.requires.0 c.requires.1
