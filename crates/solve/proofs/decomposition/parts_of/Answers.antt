use Prim.Native.Nat.{◌+◌, ◌*◌}
use native.Mathlib.Omega.{arith}
use lib.ListN.{length}
use lib.Seq.{length-take-le}
use Rattle.grid.specs.TableLaws.{length_part}
use Rattle.solve.specs.SolutionLaws.{split}
use Rattle.solve.proofs.decomposition.parts_of.Goals as goal

pub invariant_of-result : goal.invariant_of-result
invariant_of-result c =
    let r = c.least-r.result in
    let e = c.least-r.result + c.args.m * c.least-r.result in
    let q = split c.args.m c.args.n (length c.args.d.now) c.least-r.result c.requires c.least-r.ensures in
    record {
      fit = (
        q.small,
        length-take-le r c.args.d.now (omega (arith, q)),
        omega (arith, q, length_part r e c.args.d.now (omega arith) (omega (arith, q))),
        omega (arith, q, length_part e (length c.args.d.now) c.args.d.now (omega (arith, q)) (omega arith)),
      );
    }
