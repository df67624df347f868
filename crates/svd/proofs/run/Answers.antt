use mathlib.Core.Path.{◌≡◌, ◌∙◌, refl}
use Prim.Native.Nat.{ℕ}
use native.Mathlib.Omega.{arith}
use lib.ListN.{length}
use Rattle.grid.specs.Real.{Vec, zeros}
use Rattle.answers.specs.Answers.{least}
use Rattle.svd_jacobi_svd_tall.specs.SweepLengths.{Sized}
use Rattle.svd_sort_svd_descending.specs.Result.{longest}
use Rattle.svd.specs.LoadedLaws.{loaded_in, ran_in}
use Rattle.svd_sort_svd_descending.specs.ResultSizes.{Checked}
use Rattle.svd.specs.Sizes.{sized}
use Rattle.svd.proofs.run.Goals as goal

sized_of : (m n want_u want_vt r l : ℕ) (work result later : Vec) → Checked m n want_u want_vt work result → length later ≡ length work → l ≡ longest m n → r ≡ least m n → Sized l r later
sized_of m n want_u want_vt r l work result later c q g e =
    rw (g, e)
    (sized m n want_u want_vt later result (record { tall = c.tall; wide = c.wide; works = q ∙ c.works; results = c.results }))

pub load_matrix-requires : goal.load_matrix-requires
load_matrix-requires c = (c.longest-rows.ensures, c.least-cols.ensures, c.requires.1, sized_of c.args.m c.args.n c.args.want_u c.args.want_vt _ _ c.args.w.now c.args.res.now _ c.requires.2 refl c.longest-rows.ensures c.least-cols.ensures)

pub load_eye-requires : goal.load_eye-requires
load_eye-requires c = sized_of c.args.m c.args.n c.args.want_u c.args.want_vt _ _ c.args.w.now c.args.res.now _ c.requires.2 (omega arith) c.longest-rows.ensures c.least-cols.ensures

pub jacobi-x-requires : goal.jacobi-x-requires
jacobi-x-requires c = (c.requires.0, sized_of c.args.m c.args.n c.args.want_u c.args.want_vt _ _ c.args.w.now c.args.res.now _ c.requires.2 (omega arith) c.longest-rows.ensures c.least-cols.ensures)

pub returns : goal.returns
unfolding ran_in loaded_in
returns c = let same : length c.jacobi-x.new.w ≡ length c.args.w.now = omega arith in let cleared : _ ≡ zeros (length c.jacobi-x.new.w) = c.fill.ensures in rw (← c.longest-rows.ensures, ← c.least-cols.ensures, ← c.load_matrix.ensures, ← c.load_eye.ensures, ← c.jacobi-x.ensures, ← c.hand_over.ensures, ← same, ← cleared)
