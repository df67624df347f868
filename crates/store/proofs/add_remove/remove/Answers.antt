use Rattle.std.proofs.Common.{arith}
use Rattle.store_definition.specs.Store.{held_of}
use Rattle.store_definition.specs.StartLaws.{start_below, start_ends}
use Rattle.store.proofs.add_remove.remove.Goals as goal

pub start_of-at-requires : goal.start_of-at-requires
start_of-at-requires c = (omega arith, omega (arith, c.requires, start_below c.args.list.now c.args.k (held_of c.args.list.now) (omega arith)))

pub overflow_add-at : goal.overflow_add-at
overflow_add-at c = omega (arith, start_ends c.args.list.now c.args.k (held_of c.args.list.now) (omega arith) (omega arith))

pub copy_within-requires-clause-start_le_end : goal.copy_within-requires-clause-start_le_end
copy_within-requires-clause-start_le_end c = omega (arith, start_ends c.args.list.now c.args.k (held_of c.args.list.now) (omega arith) (omega arith))

pub copy_within-requires-clause-dest_in_bounds : goal.copy_within-requires-clause-dest_in_bounds
copy_within-requires-clause-dest_in_bounds c = omega (arith, c.requires, start_ends c.args.list.now c.args.k (held_of c.args.list.now) (omega arith) (omega arith))
