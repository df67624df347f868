use mathlib.Core.Path.{◌∙◌, refl}
use native.Mathlib.Omega.{arith}
use Prim.Native.Nat.{◌*◌}
use Rattle.answers.specs.Checks.{lengths}
use Rattle.answers.proofs.LengthsLaws.{two_lengths}
use Rattle.answers.proofs.VerdictLaws.{passed_on, refuses}
use Rattle.covariance.specs.ChecksLaws.{bands_refused, bands_good, bands_rest}
use Rattle.covariance.specs.BandParts.{room}
use Rattle.covariance_sums.specs.Sums.{sum_checks}
use Rattle.covariance_sums.proofs.checks.Goals as goal

pub returns-in_err-sizes : goal.returns-in_err-sizes
unfolding sum_checks
returns-in_err-sizes c = passed_on _ _ c.from_residual.ensures.1 ∙ bands_refused c.args.n c.args.count c.in_err-sizes.ensures (lengths c.args.samples (c.args.n * c.args.count) c.args.out c.args.n 0 0) (refuses c.in_err-sizes.field-0.0)

pub overflow_mul-n : goal.overflow_mul-n
overflow_mul-n c = let b = bands_good c.args.n c.args.count c.in_ok-sizes.ensures refl in omega (arith, room c.args.n c.args.count b.bands b.most)

pub returns : goal.returns
unfolding sum_checks
returns c = c.lengths.ensures ∙ two_lengths _ _ _ _ ∙ bands_rest c.args.n c.args.count c.in_ok-sizes.ensures _ refl
