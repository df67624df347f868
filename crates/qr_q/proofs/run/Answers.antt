use mathlib.Core.Path.{sym}
use native.Mathlib.Omega.{arith}
use lib.Seq.{length-take-le}
use Rattle.qr_q.proofs.run.Goals as goal

pub slice_bounds-b-end : goal.slice_bounds-b-end
slice_bounds-b-end c = c.requires.0

pub slice_bounds-columns-end : goal.slice_bounds-columns-end
slice_bounds-columns-end c = sym (length-take-le c.args.m _ c.requires.0)

pub slice_bounds-c-end : goal.slice_bounds-c-end
slice_bounds-c-end c = c.requires.0

pub slice_bounds-columns-end-2 : goal.slice_bounds-columns-end-2
slice_bounds-columns-end-2 c = sym (length-take-le c.args.m _ c.requires.0)

pub columns-requires : goal.columns-requires
columns-requires c = (omega arith, length-take-le c.args.m _ c.requires.0, length-take-le c.args.m _ c.requires.0)

pub returns : goal.returns
returns c = rw (← c.copy_from_slice.ensures.after) c.columns.ensures
