use Rattle.std.proofs.Common.{◌≡◌, length, arith}
use Rattle.qr_q.specs.QrQ.{column}
use Rattle.qr_q.proofs.column.Goals as goal

pub returns : goal.returns
unfolding column
returns c =
    let long : length c.less_columns_twice.new.c ≡ c.args.m = omega arith in
    rw (← c.column_of.ensures, ← c.less_columns_twice.ensures, ← rw long at c.norm.ensures, ← c.finish.ensures)
