use mathlib.Core.Path.{◌∙◌}
use Rattle.covariance.specs.WholeNumbers.{pair_fits, entry_fits, entry_is}
use Rattle.covariance.specs.MatrixEntries.{whole}
use Rattle.covariance.proofs.matrix_entries.whole.Goals as goal

pub times-requires-2 : goal.times-requires-2
times-requires-2 c = pair_fits c.args.count c.signed.result c.products-p.result _ _ c.requires.2 c.signed.ensures c.products-p.ensures.1 (c.requires.5.known c.args.x c.requires.0).range (c.requires.5.known c.args.y c.requires.1).range

pub minus-requires : goal.minus-requires
minus-requires c = entry_fits c.args.count c.signed.result c.products-p.result _ _ c.requires.2 c.signed.ensures c.products-p.ensures.1 (c.requires.5.known c.args.x c.requires.0).range (c.requires.5.known c.args.y c.requires.1).range c.times.ensures c.times-2.ensures

pub returns : goal.returns
unfolding whole
returns c = entry_is c.args.count c.signed.result c.products-p.result _ _ c.requires.2 c.signed.ensures c.products-p.ensures.1 (c.requires.5.known c.args.x c.requires.0).range (c.requires.5.known c.args.y c.requires.1).range c.times.ensures c.times-2.ensures c.minus.ensures ∙ rw (c.products-p.ensures.0, c.band-a.ensures.value, c.band-b.ensures.value, (c.requires.5.known c.args.x c.requires.0).is, (c.requires.5.known c.args.y c.requires.1).is)
