use Rattle.std.proofs.Common.{refl, arith}
use Rattle.root.proofs.side_by_side.Turns.{by_digit, left_is}
use Rattle.root.proofs.side_by_side.Lane.turn.Goals as goal

pub overflow_mul-result : goal.overflow_mul-result
overflow_mul-result c = omega (arith, (left_is c.args.self.remainder c.args.self.with_01 c.requires.1 c.requires.2 _ c.chosen-left.ensures).1)

pub overflow_add-result : goal.overflow_add-result
overflow_add-result c = omega (arith, (left_is c.args.self.remainder c.args.self.with_01 c.requires.1 c.requires.2 _ c.chosen-left.ensures).1)

pub returns : goal.returns
returns c =
    let left = (left_is c.args.self.remainder c.args.self.with_01 c.requires.1 c.requires.2 _ c.chosen-left.ensures).0 in
    let root = by_digit c.args.self.remainder c.args.self.with_01 c.requires.1 c.requires.2 _ _ _ c.chosen.ensures in
    record { down = refl; pairs = refl; remainder = rw left; with_01 = root }
