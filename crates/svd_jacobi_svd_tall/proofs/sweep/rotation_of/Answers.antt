use Rattle.svd_jacobi_svd_tall.specs.Sweep.{rotation_of}
use Rattle.svd_jacobi_svd_tall.proofs.sweep.rotation_of.Goals as goal

pub returns : goal.returns
unfolding rotation_of
returns c = rw (c.rotation_by.ensures, c.root-2.ensures.value, c.tangent-t.ensures, c.root.ensures.value, c.zeta_of-zeta.ensures)
