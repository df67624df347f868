use Rattle.std.specs.Prelude.{◌≡◌, ℕ, ◌<◌, Float, length, replicate}
use Rattle.std.proofs.Common.{sym, ◌∙◌, arith, rules}
use Rattle.std.proofs.lemmas.List.{ext_get_or, length-replicate, get_or-replicate}
use Rattle.std.specs.Float.{nan}
use Rattle.grid.specs.Real.{one64, ◌⊘◌}
use Rattle.grid.specs.Table.{table}
use Rattle.grid.specs.TableLaws.{length_table, at_table}
use Rattle.lanczos_steps.proofs.start_vector.level.Goals as goal

level_table : (x : Float) (n : ℕ) → replicate n x ≡ table (λ i. x) n
level_table x n =
    ext_get_or nan (replicate n x) (table (λ i. x) n) (length-replicate n x ∙ sym (length_table (λ i. x) n))
    (λ i p. get_or-replicate n i x nan (q p) ∙ sym (at_table (λ i. x) n i (q p)))
  where
    q : {i : ℕ} → i < length (replicate n x) → i < n
    q p = omega (arith, p, length-replicate n x)

pub returns : goal.returns
returns c =
    let f : c.fill.new.self ≡ replicate (length c.args.to.now) (one64 ⊘ c.root-x.result) = search rules in
    f ∙ level_table (one64 ⊘ c.root-x.result) (length c.args.to.now) ∙ rw (c.root-x.ensures.value, c.nearest_u64_to_f64.ensures)
