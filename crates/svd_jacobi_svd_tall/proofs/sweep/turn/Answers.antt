use mathlib.Core.Path.{◌≡◌}
use Rattle.svd_jacobi_svd_tall.specs.Sweep.{v_at, rotated}
use Rattle.svd_jacobi_svd_tall.specs.Turned.{turned}
use Rattle.svd_jacobi_svd_tall.proofs.sweep.turn.Goals as goal

pub returns : goal.returns
unfolding turned
returns c = let second : _ ≡ rotated (v_at c.args.rows c.args.cols c.args.p) (v_at c.args.rows c.args.cols c.args.q) c.args.cols _ _ = c.rotate-2.ensures in rw (← c.rotate.ensures, ← second)
