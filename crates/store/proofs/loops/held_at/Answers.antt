use Rattle.std.proofs.Common.{ℕ, Result, IfOk, subst, sym, arith}
use Rattle.std.proofs.lemmas.Bool.Decides.{nat_tests}
use Rattle.store.specs.Parts.{LiesAt}
use Rattle.store.specs.Refusals.{looked_up}
use Rattle.store.specs.declared.refusal.StoreRefusal.{StoreRefusal}
use Rattle.store.proofs.Found.{found}
use Rattle.store.proofs.loops.held_at.Goals as goal

pub returns-clause-is : goal.returns-clause-is
unfolding looked_up
returns-clause-is c = grind (arith, nat_tests)

pub returns-clause-lies : goal.returns-clause-lies
returns-clause-lies c =
    subst (λ (r : Result ℕ StoreRefusal). IfOk r (λ k. LiesAt c.args.list.now c.args.tiles.now c.args.bytes.now k)) (sym (returns-clause-is c))
    (found c.args.entries _ _ _ c.args.tile)
