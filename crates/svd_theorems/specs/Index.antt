-- What the index of `svd` points at. Definitions only.
use Rattle.std.specs.Prelude.{◌≡◌, ℕ}
use Rattle.grid.specs.Real.{Vec}
use Rattle.answers.specs.Answers.{least}
use Rattle.answers.specs.declared.Answer.{Answer}
use Rattle.svd_theorems.specs.SweepsOutcome.{Seen1, bad}
use Rattle.svd_sort_svd_descending.specs.Result.{longest}
use Rattle.svd_theorems.specs.Outcome.{Broken2, Halted}

-- at mark 1, of the factors as the last sweep left them, or at mark 2, of the values and the factors, number `index` is the first that is not finite, and of the answer's class
pub data Points (m n limit : ℕ) (matrix : Vec) (x : Answer) : Type 0 where
  in_factors : x.place ≡ 1 → (h : Halted m n limit matrix (bad x.answer x.index) x.count) → Seen1 (longest m n) (least m n) h.last x.index x.answer
      → Points m n limit matrix x
  in_all : x.place ≡ 2 → Broken2 m n limit matrix x.count x.answer x.index → Points m n limit matrix x
