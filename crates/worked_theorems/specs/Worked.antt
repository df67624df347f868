-- Calls at numbers, computed: the scope's worked numbers that are marked P, as one table with one claim; the marks of `symmetric_eigen`; and calls that turn, their bits by the oracle. Numbers stand by their bits.
use Rattle.std.specs.Prelude.{◌≡◌, refl, Bool, true, false, ◌&&◌, List, [], ◌∷◌, ◌++◌, map, ℕ, ◌+◌, ◌*◌, eqb, length, replicate, Float}
use Rattle.std.specs.Float.{binary64}
use Rattle.std.specs.Float.Ieee.{of_bits, to_bits, add, sub, mul, div, neg, lt, le, eq, ne, of_int}
use Rattle.grid.specs.Real.{Vec, one64}
use Rattle.answers.specs.declared.Answer.{Answer}
use Rattle.grid.specs.Loop as lo
use Rattle.grid.specs.Table as ta
use Rattle.root.specs.Root as ro
use Rattle.leaves.specs.Leaf as le
use Rattle.leaves.specs.Scan as sc
use Rattle.answers.specs.Answers as an
use Rattle.answers.specs.Checks as ch
use Rattle.eigen_tred2_definition.specs.Tred2 as tr
use Rattle.hypot.specs.Hypot2 as hy
use Rattle.hypot.specs.Edition as ed
use Rattle.eigen_tql2_pass.specs.Transform as tf
use Rattle.eigen_tql2_pass.specs.Pass as pa
use Rattle.eigen_tql2.specs.Sort as st
use Rattle.eigen_tql2.specs.LStartEnd as te
use Rattle.eigen_tql2.specs.RunOverL as tu
use Rattle.eigen_tql2.specs.Finish as qe
use Rattle.eigen_tql2.specs.Tql2 as ql
use Rattle.eigen_symmetric_eigen.specs.Layout as la
use Rattle.eigen_symmetric_eigen.specs.AfterTred2 as af
use Rattle.eigen_symmetric_eigen.specs.SymmetricEigen as ei
use Rattle.svd_jacobi_svd_tall.specs.Sweep as sw
use Rattle.svd_jacobi_svd_tall.specs.SingularValues as va
use Rattle.svd_jacobi_svd_tall.specs.Marks as ma
use Rattle.svd_jacobi_svd_tall.specs.JacobiSvdTall as ja
use Rattle.svd_sort_svd_descending.specs.Order as so
use Rattle.svd_sort_svd_descending.specs.Result as re
use Rattle.svd.specs.Svd as sv
use Rattle.solve.specs.Solution as sn
use Rattle.solve.specs.PseudoInverse as iv
use Rattle.solve.specs.Solve as sl
use Rattle.gram_schmidt.specs.Gram as gr
use Rattle.gram_schmidt.specs.Unit as un
use Rattle.qr_q.specs.QrQ as qr
use Rattle.lanczos_pairs.specs.TridiagonalMatrix as ti
use Rattle.matvec.specs.Matvec as mv
use Rattle.lanczos_steps.specs.Reorthogonalise as rh
use Rattle.lanczos_steps.specs.StartVector as sa
use Rattle.lanczos_steps.specs.StepEnd as en
use Rattle.lanczos_steps.specs.Krylov as kr
use Rattle.lanczos_pairs.specs.RitzPairs as ri
use Rattle.lanczos_pairs.specs.LeadingPairs as ld
use Rattle.lanczos_pairs.specs.TridiagonalEigen as td
use Rattle.lanczos.specs.Checks as lc
use Rattle.lanczos.specs.Run as lr
use Rattle.lanczos.specs.Lanczos as lz
use Rattle.eigen_tql2_step.specs.SkipSettled as se
use Rattle.eigen_tql2_step.specs.Advance as mc
use Rattle.eigen_tql2_step.specs.Checks as rc
use Rattle.eigen_steps.specs.Arrays as lt
use Rattle.eigen_steps.specs.Steps as sp
use Rattle.eigen_steps.specs.declared.EigenRun.{EigenRun}

-- one call by its inputs, and what the scope says of it
pub data Row : Type 0 where
  root : (x r : ℕ) → Row
  hypot : (x y r : ℕ) → Row
  eigen : (n : ℕ) (matrix : List ℕ) (answer place index count : ℕ) (result : List ℕ) → Row
  svd : (m n : ℕ) (matrix : List ℕ) (count : ℕ) (result : List ℕ) → Row
  solve : (m n tolerance : ℕ) (decomposition right : List ℕ) (number : ℕ) (answer : List ℕ) → Row
  pseudo_inverse : (m n tolerance : ℕ) (decomposition : List ℕ) (number : ℕ) (answer : List ℕ) → Row
  qr_q : (m k : ℕ) (matrix answer : List ℕ) → Row
  eigen_by : (edition n : ℕ) (matrix : List ℕ) (count : ℕ) (result : List ℕ) → Row
  lanczos : (n k : ℕ) (matrix start : List ℕ) (place count : ℕ) (answer : List ℕ) → Row
  steps : (k n : ℕ) (matrix : List ℕ) (l m f tst1 count : ℕ) (work result : List ℕ) → Row

unfoldable pub alike : List ℕ → List ℕ → Bool
alike [] [] = true
alike [] (y ∷ ys) = false
alike (x ∷ xs) [] = false
alike (x ∷ xs) (y ∷ ys) = eqb x y && alike xs ys

abbrev pub numbers : Answer → List ℕ
numbers a = a.answer ∷ a.place ∷ a.index ∷ a.count ∷ []

-- a run's own numbers, f and tst1 by their bits, and what the last call answered
unfoldable pub recorded : EigenRun → List ℕ
unfolding to_bits
recorded q =
    (q.run.l ∷ q.run.m ∷ to_bits binary64 q.run.f ∷ to_bits binary64 q.run.tst1 ∷ q.run.passes ∷ q.run.count ∷ q.run.stop ∷ q.run.index ∷ [])
    ++ numbers q.answer

-- the definitions, opened once
unfoldable pub number : ℕ → Float
unfolding of_bits
number b = of_bits binary64 b

unfoldable pub bits : Vec → List ℕ
unfolding to_bits
bits v = map (to_bits binary64) v

unfoldable pub list_of_bits : List ℕ → Vec
unfolding number
list_of_bits l = map number l

-- what is lent before: so many ones, which must not matter
abbrev pub ones : ℕ → Vec
ones n = replicate n one64

-- a call gives these numbers: (four numbers, work, result)
unfoldable pub given : Row → List ℕ
unfolding of_bits to_bits number bits list_of_bits add sub mul div neg lt le eq ne lo.seek lo.first lo.times lo.upto lo.down lo.rounds lo.drops lo.fall ta.table ta.rows ro.whole ro.root_of ro.root le.magnitude le.larger le.is_finite le.hypot_of le.hypot sc.class_of sc.scan sc.place_of sc.lower_of sc.first_bad_lower sc.by_rows an.least an.present an.decomposition_length tr.scale_of tr.skip_row tr.over_scale tr.clear tr.against tr.generate tr.similar_column tr.similarity tr.over_h tr.lessen tr.update_column tr.updates tr.reflect tr.skip tr.reduce tr.householder tr.reduction tr.column_over tr.column_dot tr.take_off tr.turn_columns tr.clear_column tr.apply tr.accumulate tr.accumulation tr.copy_last tr.move_last tr.tred2 hy.hypot2 hy.root_of_sum ed.pythag tf.signed tf.shift tf.lessened tf.rotated tf.spin tf.spins tf.landed tf.transformed pa.mark1 pa.settled pa.verdict pa.pass ql.moved_up te.split te.opened tu.iterated te.closed tu.stage tu.turn tu.run st.least_from st.swapped st.sort_step st.sorted qe.mark2 qe.ql_finished ql.tql2 la.columns af.mark0 af.after_tred ei.decomposed ei.given ei.eigen_entered ei.eigen sw.gram sw.skipped sw.rotation_of sw.rotated sw.pair_done sw.pairs_of sw.sweep va.norm_sq va.divided va.normal_step va.normalised ja.verdict ja.swept ja.sweeps ja.finished ja.jacobi so.rank so.order re.longest re.work_length re.sorted_out sv.source sv.loaded sv.checks sv.ran sv.svd sn.column_sum sn.coefficient sn.solution iv.inverse iv.pinv_sum iv.inverted sl.solve_checks sl.inverse_checks sl.looked sl.solve sl.pseudo_inverse gr.dot gr.lessened gr.less_columns gr.less_columns_twice gr.norm un.over un.normalised un.put_column un.finished qr.column qr.columns qr.checks qr.qr_q ch.limit_good ch.edition_good ch.fitting_edition ch.tolerance_good ch.lengths ch.fitting ma.factors_bad ma.all_bad of_int ti.tri mv.product mv.added mv.without rh.twice sa.started en.step_ended kr.recurred kr.step kr.steps ri.ritz ri.levelled ri.pair ri.pairs ld.looked ld.selected td.inward lc.size lc.work_length lc.checks lr.paired lr.solved lr.ran lz.lanczos recorded se.skipped se.found_l mc.step rc.in_range rc.sound rc.checked lt.closed_up sp.begun sp.start_entered sp.started sp.moved sp.stepped
given (root x r) = to_bits binary64 (ro.root (number x)) ∷ []
given (hypot x y r) = to_bits binary64 (le.hypot (number x) (number y)) ∷ []
given (eigen n matrix answer place index count result) =
    let x = ei.eigen n 60 1 (list_of_bits matrix) (ones n) (ones (n + n * n)) in
    numbers x.0 ++ bits x.1 ++ bits x.2
given (svd m n matrix count result) =
    let x = sv.svd m n 1 1 60 (list_of_bits matrix) (ones (re.work_length m n)) (ones (length result)) in
    numbers x.0 ++ bits x.1 ++ bits x.2
given (solve m n tolerance decomposition right k answer) =
    let x = sl.solve m n 1 1 (number tolerance) (list_of_bits decomposition) (list_of_bits right) (ones n) in
    numbers x.0 ++ bits x.1
given (pseudo_inverse m n tolerance decomposition k answer) =
    let x = sl.pseudo_inverse m n 1 1 (number tolerance) (list_of_bits decomposition) (ones (n * m)) in
    numbers x.0 ++ bits x.1
given (qr_q m k matrix answer) =
    let x = qr.qr_q m k (list_of_bits matrix) (ones (m * k)) in
    numbers x.0 ++ bits x.1
given (eigen_by edition n matrix count result) =
    let x = ei.eigen n 60 edition (list_of_bits matrix) (ones n) (ones (n + n * n)) in
    numbers x.0 ++ bits x.1 ++ bits x.2
given (lanczos n k matrix start place count answer) =
    let x = lz.lanczos n k 60 1 (list_of_bits matrix) (list_of_bits start) (ones (lc.work_length n k)) (ones (k + k * n)) in
    numbers x.0 ++ bits x.1 ++ bits x.2
given (steps k n matrix l m f tst1 count work result) =
    let x = lo.upto (λ i x. sp.stepped x.0 x.1 x.2) 0 k (sp.started n 60 1 (list_of_bits matrix) (ones n) (ones (n + n * n))) in
    recorded x.0 ++ bits x.1 ++ bits x.2

-- what it should give
unfoldable pub wanted : Row → List ℕ
unfolding re.work_length re.longest an.least lc.work_length lc.size
wanted (root x r) = r ∷ []
wanted (hypot x y r) = r ∷ []
wanted (eigen n matrix answer place index count result) = (answer ∷ place ∷ index ∷ count ∷ []) ++ replicate n 0 ++ result
wanted (svd m n matrix count result) = (0 ∷ 0 ∷ 0 ∷ count ∷ []) ++ replicate (re.work_length m n) 0 ++ result
wanted (solve m n tolerance decomposition right k answer) = (k ∷ 0 ∷ 0 ∷ 0 ∷ []) ++ answer
wanted (pseudo_inverse m n tolerance decomposition k answer) = (k ∷ 0 ∷ 0 ∷ 0 ∷ []) ++ answer
wanted (qr_q m k matrix answer) = (0 ∷ 0 ∷ 0 ∷ 0 ∷ []) ++ answer
wanted (eigen_by edition n matrix count result) = (0 ∷ 0 ∷ 0 ∷ count ∷ []) ++ replicate n 0 ++ result
wanted (lanczos n k matrix start place count answer) = (0 ∷ place ∷ 0 ∷ count ∷ []) ++ replicate (lc.work_length n k) 0 ++ answer
wanted (steps k n matrix l m f tst1 count work result) =
    (l ∷ m ∷ f ∷ tst1 ∷ 0 ∷ count ∷ 0 ∷ 0 ∷ []) ++ (0 ∷ 0 ∷ 0 ∷ count ∷ []) ++ work ++ result

unfoldable pub all : List Row → Bool
unfolding alike given wanted
all [] = true
all (r ∷ rs) = alike (given r) (wanted r) && all rs

-- numbers by their bits
abbrev pub quarter : ℕ
quarter = 0x3fd0_0000_0000_0000

abbrev pub half : ℕ
half = 0x3fe0_0000_0000_0000

abbrev pub one : ℕ
one = 0x3ff0_0000_0000_0000

abbrev pub two : ℕ
two = 0x4000_0000_0000_0000

abbrev pub three : ℕ
three = 0x4008_0000_0000_0000

abbrev pub four : ℕ
four = 0x4010_0000_0000_0000

abbrev pub five : ℕ
five = 0x4014_0000_0000_0000

abbrev pub minus_zero : ℕ
minus_zero = 0x8000_0000_0000_0000

abbrev pub not_a_number : ℕ
not_a_number = 0x7ff8_0000_0000_0000

abbrev pub infinity : ℕ
infinity = 0x7ff0_0000_0000_0000

abbrev pub minus_infinity : ℕ
minus_infinity = 0xfff0_0000_0000_0000

-- -2^-1074
abbrev pub minus_least : ℕ
minus_least = 0x8000_0000_0000_0001

-- the svd of the diagonal matrix (2, 4): values 4, 2, U and V^T
abbrev pub decomposition : List ℕ
decomposition = four ∷ two ∷ 0 ∷ one ∷ one ∷ 0 ∷ 0 ∷ one ∷ one ∷ 0 ∷ []

-- an answer of 2 by 2 as it was lent
abbrev pub untouched : List ℕ
untouched = one ∷ one ∷ one ∷ one ∷ []

abbrev pub table : List Row
table =
    root four two
    ∷ root minus_zero minus_zero
    ∷ root 1 0x1e60_0000_0000_0000
    ∷ root two 0x3ff6_a09e_667f_3bcd
    ∷ hypot three four five
    ∷ hypot 0 0 0
    ∷ eigen 0 [] 0 0 0 0 []
    ∷ eigen 1 (minus_zero ∷ []) 0 0 0 0 (0 ∷ one ∷ [])
    ∷ eigen 2 (two ∷ 0 ∷ 0 ∷ one ∷ []) 0 0 0 0 (one ∷ two ∷ 0 ∷ one ∷ one ∷ 0 ∷ [])
    ∷ eigen 2 (one ∷ not_a_number ∷ 0 ∷ two ∷ []) 0 0 0 0 (one ∷ two ∷ one ∷ 0 ∷ 0 ∷ one ∷ [])
    ∷ eigen 2 (one ∷ 0 ∷ not_a_number ∷ two ∷ []) 7 2 0 0 (0 ∷ 0 ∷ 0 ∷ 0 ∷ 0 ∷ 0 ∷ [])
    ∷ svd 2 2 (two ∷ 0 ∷ 0 ∷ four ∷ []) 1 decomposition
    ∷ pseudo_inverse 2 2 0 decomposition 0 (half ∷ 0 ∷ 0 ∷ quarter ∷ [])
    ∷ pseudo_inverse 2 2 two decomposition 0 (0 ∷ 0 ∷ 0 ∷ quarter ∷ [])
    ∷ pseudo_inverse 2 2 minus_zero decomposition 0 (half ∷ 0 ∷ 0 ∷ quarter ∷ [])
    ∷ pseudo_inverse 2 2 infinity decomposition 0 (0 ∷ 0 ∷ 0 ∷ 0 ∷ [])
    ∷ pseudo_inverse 2 2 not_a_number decomposition 11 untouched
    ∷ pseudo_inverse 2 2 minus_least decomposition 11 untouched
    ∷ pseudo_inverse 2 2 minus_infinity decomposition 11 untouched
    ∷ solve 2 2 minus_zero decomposition (four ∷ four ∷ []) 0 (two ∷ one ∷ [])
    ∷ solve 2 2 not_a_number decomposition (four ∷ four ∷ []) 11 (one ∷ one ∷ [])
    ∷ qr_q 1 1 (0x3cb0_0000_0000_0000 ∷ []) (0 ∷ [])
    ∷ qr_q 1 1 (0x3cc0_0000_0000_0000 ∷ []) (one ∷ [])
    ∷ []

-- T6
pub worked : all table ≡ true
unfolding all
worked = refl

-- ---- not marked P: both classes at the marks of `symmetric_eigen`, and the index, with the scope's 10 at mark 0 first

abbrev pub minus_one : ℕ
minus_one = 0xbff0_0000_0000_0000

-- 2^1022 and 2^1023, and the largest number there is
abbrev pub large : ℕ
large = 0x7fd0_0000_0000_0000

abbrev pub huge : ℕ
huge = 0x7fe0_0000_0000_0000

abbrev pub minus_huge : ℕ
minus_huge = 0xffe0_0000_0000_0000

abbrev pub largest : ℕ
largest = 0x7fef_ffff_ffff_ffff

abbrev pub minus_largest : ℕ
minus_largest = 0xffef_ffff_ffff_ffff

-- in d, in d, in e, in e, in d
abbrev pub marks : List Row
marks =
    eigen 3 (0 ∷ 0 ∷ 0 ∷ 0 ∷ 0 ∷ 0 ∷ huge ∷ huge ∷ 0 ∷ []) 10 0 0 0 (replicate 12 0)
    ∷ eigen 4 (one ∷ 0 ∷ 0 ∷ 0 ∷ one ∷ minus_huge ∷ 0 ∷ 0 ∷ huge ∷ 0 ∷ huge ∷ 0 ∷ one ∷ huge ∷ 0 ∷ 0 ∷ []) 8 0 1 0 (replicate 20 0)
    ∷ eigen 2 (0 ∷ 0 ∷ largest ∷ 0 ∷ []) 10 1 3 1 (replicate 6 0)
    ∷ eigen 3 (0 ∷ 0 ∷ 0 ∷ large ∷ minus_one ∷ 0 ∷ 0 ∷ minus_largest ∷ large ∷ []) 8 1 4 1 (replicate 12 0)
    ∷ eigen 2 (large ∷ 0 ∷ large ∷ largest ∷ []) 8 2 1 1 (replicate 6 0)
    ∷ []

pub marks_worked : all marks ≡ true
unfolding all
marks_worked = refl

-- ---- calls that turn: at least one pass of QL, one rotation of Jacobi, one vector taken out. The bits are the oracle's (oracle/src/patched.rs and lanczos.rs)

-- the svd of (1 2 / 3 4), after three sweeps
abbrev pub turned_decomposition : List ℕ
turned_decomposition =
    0x4015_dc25_3662_e9cd ∷ 0x3fd7_6bfd_750b_9d5a
    ∷ 0x3fd9_e434_b815_cb88 ∷ 0xbfed_43b3_7bf5_1268 ∷ 0x3fed_43b3_7bf5_1267 ∷ 0x3fd9_e434_b815_cb89
    ∷ 0x3fe2_6efd_219a_583e ∷ 0x3fea_2844_ad6e_c66b ∷ 0x3fea_2844_ad6e_c66b ∷ 0xbfe2_6efd_219a_583e ∷ []

-- one QL pass, with either edition; (1 . / 3 2) has other bits under the other one. svd, solve and pseudo_inverse of (1 2 / 3 4)
-- qr_q of (1 1 / 1 2): with one round in place of two it has other bits
abbrev pub turned : List Row
turned =
    eigen_by 1 2 (two ∷ one ∷ one ∷ two ∷ []) 1 (0x3ff0_0000_0000_0001 ∷ three ∷ 0x3fe6_a09e_667f_3bcc ∷ 0x3fe6_a09e_667f_3bcc ∷ 0xbfe6_a09e_667f_3bcc ∷ 0x3fe6_a09e_667f_3bcc ∷ [])
    ∷ eigen_by 1 2 (one ∷ 0 ∷ three ∷ two ∷ []) 1 (0xbff8_a97f_66c7_b874 ∷ 0x4012_2a5f_d9b1_ee1d ∷ 0xbfe8_6aa8_e1dd_4674 ∷ 0x3fe4_af1a_67fa_b4f2 ∷ 0x3fe4_af1a_67fa_b4f2 ∷ 0x3fe8_6aa8_e1dd_4674 ∷ [])
    ∷ eigen_by 2 2 (one ∷ 0 ∷ three ∷ two ∷ []) 1 (0xbff8_a97f_66c7_b872 ∷ 0x4012_2a5f_d9b1_ee1e ∷ 0xbfe8_6aa8_e1dd_4674 ∷ 0x3fe4_af1a_67fa_b4f1 ∷ 0x3fe4_af1a_67fa_b4f1 ∷ 0x3fe8_6aa8_e1dd_4674 ∷ [])
    ∷ svd 2 2 (one ∷ two ∷ three ∷ four ∷ []) 3 turned_decomposition
    ∷ solve 2 2 0 turned_decomposition (one ∷ three ∷ []) 0 (0x3ff0_0000_0000_0002 ∷ 0xbcb8_0000_0000_0000 ∷ [])
    ∷ pseudo_inverse 2 2 0 turned_decomposition 0 (0xc000_0000_0000_0001 ∷ 0x3ff0_0000_0000_0001 ∷ 0x3ff8_0000_0000_0001 ∷ 0xbfe0_0000_0000_0002 ∷ [])
    ∷ qr_q 2 2 (one ∷ one ∷ one ∷ two ∷ []) (0x3fe6_a09e_667f_3bcc ∷ 0xbfe6_a09e_667f_3bcc ∷ 0x3fe6_a09e_667f_3bcc ∷ 0x3fe6_a09e_667f_3bcc ∷ [])
    ∷ []

pub turned_worked : all turned ≡ true
unfolding all
turned_worked = refl

-- lanczos, k = 1: with one round in place of two each has other bits (2 would be 3fffffffffffffff, the last number of the second bc84000000000002)
abbrev pub led : List Row
led =
    lanczos 2 1 (one ∷ one ∷ one ∷ one ∷ []) (one ∷ two ∷ []) 1 1 (two ∷ 0x3fe6_a09e_667f_3bcc ∷ 0x3fe6_a09e_667f_3bcd ∷ [])
    ∷ lanczos 3 1 (three ∷ one ∷ 0 ∷ one ∷ 0 ∷ 0 ∷ 0 ∷ 0 ∷ 0 ∷ []) (one ∷ two ∷ three ∷ []) 1 5 (0x400a_6c15_a230_acf8 ∷ 0x3fee_a07f_7521_0d17 ∷ 0x3fd2_8bd2_d061_0649 ∷ 0 ∷ [])
    ∷ []

pub led_worked : all led ≡ true
unfolding all
led_worked = refl

-- the eigen run of (2 1 / 1 2) in steps: behind the start no pass has been run, behind the first step one. The bits are the oracle's (oracle/src/steps.rs)
abbrev pub stepwise : List Row
stepwise =
    steps 0 2 (two ∷ one ∷ one ∷ two ∷ []) 0 0 0 0 0 (minus_one ∷ 0 ∷ []) (two ∷ two ∷ minus_one ∷ 0 ∷ 0 ∷ one ∷ [])
    ∷ steps 1 2 (two ∷ one ∷ one ∷ two ∷ []) 1 1 three three 1 (0 ∷ 0 ∷ []) (three ∷ 0xbfff_ffff_ffff_ffff ∷ 0x3fe6_a09e_667f_3bcc ∷ 0x3fe6_a09e_667f_3bcc ∷ 0x3fe6_a09e_667f_3bcc ∷ 0xbfe6_a09e_667f_3bcc ∷ [])
    ∷ []

pub stepwise_worked : all stepwise ≡ true
unfolding all
stepwise_worked = refl
