use mathlib.Core.Path.{◌≡◌, ◌∙◌, ap}
use Rattle.std.specs.List.{copy_within}
use Rattle.std.specs.Prelude.{ℕ}
use Rattle.grid.specs.Loop.{upto}
use Rattle.eigen_tql2.specs.Tql2.{moved_up}
use Rattle.eigen_tql2.specs.Tql2Steps.{up_step}
use Rattle.eigen_tql2.specs.Tql2Laws.{moved_by_copy}
use Rattle.eigen_tql2.proofs.move_up.Goals as goal

pub returns : goal.returns
unfolding moved_up
returns c =
    let e : c.copy_within.new.self ≡ upto up_step 1 c.args.n c.args.e.now = c.copy_within.ensures.after ∙ ap (λ (k : ℕ). copy_within c.args.e.now 1 k 0) c.requires.1 ∙ moved_by_copy c.args.n c.args.e.now c.requires.0 c.requires.1 in
    rw e
