use Rattle.svd_jacobi_svd_tall.specs.Sweep.{rotation_of}
use Rattle.svd_jacobi_svd_tall.proofs.sweep.rotations_of.Goals as goal

pub returns : goal.returns
unfolding rotation_of
returns c = rw (c.rotation_by.ensures, c.rotation_by-2.ensures, c.roots-k.ensures.value, c.tangent-t.ensures, c.tangent-u.ensures, c.roots-r.ensures.value, c.zeta_of-zeta.ensures, c.zeta_of-eta.ensures)
