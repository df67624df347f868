use native.Mathlib.Omega.{arith}
use Rattle.text.specs.Stores.{places_most, number_put}
use Rattle.text.proofs.write.put_number.Goals as goal

pub spell-requires : goal.spell-requires
spell-requires c = omega (arith, places_most c.args.n, c.places-k.ensures)

pub overflow_add-at : goal.overflow_add-at
overflow_add-at c = omega (arith, places_most c.args.n, c.places-k.ensures)

pub overflow_add-result : goal.overflow_add-result
overflow_add-result c = omega (arith, places_most c.args.n, c.places-k.ensures)

pub overflow_add-result-2 : goal.overflow_add-result-2
overflow_add-result-2 c = omega (arith, places_most c.args.n, c.places-k.ensures)

pub returns : goal.returns
returns c = number_put c.args.out.now c.spell.new.out c.put.new.out c.args.at c.args.n c.places-k.result c.args.end c.places-k.ensures c.spell.ensures c.put.ensures
