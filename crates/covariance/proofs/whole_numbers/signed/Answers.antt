use native.Mathlib.Omega.{arith}
use mir.Facts.{to_z-of_z}
use mir.Syntax.{w64}
use lib.IntN.{pos}
use borrow.Author.Rules.{sfits_of}
use Rattle.covariance.proofs.whole_numbers.signed.Goals as goal

pub returns : goal.returns
returns c = to_z-of_z {w = w64} {z = pos c.args.n} (sfits_of (omega arith))
