use mathlib.Core.Path.{◌∙◌, sym, ap}
use Rattle.grid.specs.Real.{zeros}
use Rattle.lanczos.proofs.Sizes.{enough}
use Rattle.lanczos.proofs.enter.Goals as goal

pub run-r-requires : goal.run-r-requires
run-r-requires c = (c.requires.0, c.requires.1, c.requires.2, enough c.args.n c.args.k _ c.requires.0 (c.fill.auto.d ∙ c.requires.3), c.fill.ensures ∙ ap zeros (sym c.fill.auto.d), c.fill-2.ensures ∙ ap zeros c.requires.4)
