use mathlib.Core.Path.{◌∙◌, sym, ap}
use Prim.Native.Nat.{ℕ, ◌+◌, ◌*◌}
use lib.Seq.{length-take-le}
use mathlib.Core.List.{List}
use Rattle.grid.specs.Real.{zeros}
use Rattle.text.specs.Writing.{written}
use Rattle.text.specs.Stores.{words_most}
use Rattle.text_reply.specs.ReplyLaws.{solved_front}
use lib.ListN.{take}
use Rattle.text_reply.proofs.solve_front.Goals as goal

pub slice_bounds-solve-end : goal.slice_bounds-solve-end
slice_bounds-solve-end c = sym (length-take-le _ c.args.numbers.now c.requires.1)

pub slice_bounds-solve-end-2 : goal.slice_bounds-solve-end-2
slice_bounds-solve-end-2 c = sym (length-take-le c.args.reading.n (zeros 32) c.requires.0)

pub slice_bounds-result-end : goal.slice_bounds-result-end
slice_bounds-result-end c = words_most c.args.reading.n c.requires.0

pub slice_bounds-solve-end-3 : goal.slice_bounds-solve-end-3
slice_bounds-solve-end-3 c = sym (length-take-le (c.args.reading.n + c.args.reading.n * c.args.reading.n) (zeros 1056) (words_most c.args.reading.n c.requires.0))

pub returns : goal.returns
returns c = c.solve.ensures ∙ ap (λ (x : List ℕ). written x c.args.out.now) (solved_front c.args.reading.n c.args.reading.limit (take (c.args.reading.n * c.args.reading.n) c.args.numbers.now) c.requires.0)
