-- Calls at numbers, computed by the definitions: numbers stand by their bits. Laws only.
use Rattle.std.specs.Prelude.{◌≡◌, true, [], ◌∷◌, replicate}
use Rattle.worked_theorems.specs.Worked.{root, hypot, eigen, svd, solve, pseudo_inverse, qr_q, eigen_by, lanczos, steps, all, quarter, half, one, two, three, four, five, minus_zero, not_a_number, infinity, minus_infinity, minus_least, decomposition, untouched, minus_one, large, huge, minus_huge, largest, minus_largest, turned_decomposition}
use Rattle.worked_theorems.specs.Worked.{worked, marks_worked, turned_worked, led_worked, stepwise_worked}

-- The scope's worked numbers that are marked P, computed by the definitions.
pub t6_worked : all
    (root four two
    ∷ root minus_zero minus_zero
    ∷ root 1 0x1e60_0000_0000_0000
    ∷ root two 0x3ff6_a09e_667f_3bcd
    ∷ hypot three four five
    ∷ hypot 0 0 0
    ∷ eigen 0 [] 0 0 0 0 []
    ∷ eigen 1 (minus_zero ∷ []) 0 0 0 0 (0 ∷ one ∷ [])
    ∷ eigen 2 (two ∷ 0 ∷ 0 ∷ one ∷ []) 0 0 0 0 (one ∷ two ∷ 0 ∷ one ∷ one ∷ 0 ∷ [])
    ∷ eigen 2 (one ∷ not_a_number ∷ 0 ∷ two ∷ []) 0 0 0 0 (one ∷ two ∷ one ∷ 0 ∷ 0 ∷ one ∷ [])
    ∷ eigen 2 (one ∷ 0 ∷ not_a_number ∷ two ∷ []) 7 2 0 0 (0 ∷ 0 ∷ 0 ∷ 0 ∷ 0 ∷ 0 ∷ [])
    ∷ svd 2 2 (two ∷ 0 ∷ 0 ∷ four ∷ []) 1 decomposition
    ∷ pseudo_inverse 2 2 0 decomposition 0 (half ∷ 0 ∷ 0 ∷ quarter ∷ [])
    ∷ pseudo_inverse 2 2 two decomposition 0 (0 ∷ 0 ∷ 0 ∷ quarter ∷ [])
    ∷ pseudo_inverse 2 2 minus_zero decomposition 0 (half ∷ 0 ∷ 0 ∷ quarter ∷ [])
    ∷ pseudo_inverse 2 2 infinity decomposition 0 (0 ∷ 0 ∷ 0 ∷ 0 ∷ [])
    ∷ pseudo_inverse 2 2 not_a_number decomposition 11 untouched
    ∷ pseudo_inverse 2 2 minus_least decomposition 11 untouched
    ∷ pseudo_inverse 2 2 minus_infinity decomposition 11 untouched
    ∷ solve 2 2 minus_zero decomposition (four ∷ four ∷ []) 0 (two ∷ one ∷ [])
    ∷ solve 2 2 not_a_number decomposition (four ∷ four ∷ []) 11 (one ∷ one ∷ [])
    ∷ qr_q 1 1 (0x3cb0_0000_0000_0000 ∷ []) (0 ∷ [])
    ∷ qr_q 1 1 (0x3cc0_0000_0000_0000 ∷ []) (one ∷ [])
    ∷ []) ≡ true
t6_worked = worked

-- Refusals 10 and 8 of `symmetric_eigen` at place 0, 10 and 8 at place 1 and 8 at place 2, each with its index: in d, in d, in e, in e, in d.
pub t6_marks_worked : all
    (eigen 3 (0 ∷ 0 ∷ 0 ∷ 0 ∷ 0 ∷ 0 ∷ huge ∷ huge ∷ 0 ∷ []) 10 0 0 0 (replicate 12 0)
    ∷ eigen 4 (one ∷ 0 ∷ 0 ∷ 0 ∷ one ∷ minus_huge ∷ 0 ∷ 0 ∷ huge ∷ 0 ∷ huge ∷ 0 ∷ one ∷ huge ∷ 0 ∷ 0 ∷ []) 8 0 1 0 (replicate 20 0)
    ∷ eigen 2 (0 ∷ 0 ∷ largest ∷ 0 ∷ []) 10 1 3 1 (replicate 6 0)
    ∷ eigen 3 (0 ∷ 0 ∷ 0 ∷ large ∷ minus_one ∷ 0 ∷ 0 ∷ minus_largest ∷ large ∷ []) 8 1 4 1 (replicate 12 0)
    ∷ eigen 2 (large ∷ 0 ∷ large ∷ largest ∷ []) 8 2 1 1 (replicate 6 0)
    ∷ []) ≡ true
t6_marks_worked = marks_worked

-- Calls that turn, computed by the definitions; the bits are the oracle's: one QL pass with either edition, whose bits differ; `svd` of (1 2 / 3 4) after three sweeps, `solve` and `pseudo_inverse` of that; `qr_q` of (1 1 / 1 2).
pub t39_turned : all
    (eigen_by 1 2 (two ∷ one ∷ one ∷ two ∷ []) 1 (0x3ff0_0000_0000_0001 ∷ three ∷ 0x3fe6_a09e_667f_3bcc ∷ 0x3fe6_a09e_667f_3bcc ∷ 0xbfe6_a09e_667f_3bcc ∷ 0x3fe6_a09e_667f_3bcc ∷ [])
    ∷ eigen_by 1 2 (one ∷ 0 ∷ three ∷ two ∷ []) 1 (0xbff8_a97f_66c7_b874 ∷ 0x4012_2a5f_d9b1_ee1d ∷ 0xbfe8_6aa8_e1dd_4674 ∷ 0x3fe4_af1a_67fa_b4f2 ∷ 0x3fe4_af1a_67fa_b4f2 ∷ 0x3fe8_6aa8_e1dd_4674 ∷ [])
    ∷ eigen_by 2 2 (one ∷ 0 ∷ three ∷ two ∷ []) 1 (0xbff8_a97f_66c7_b872 ∷ 0x4012_2a5f_d9b1_ee1e ∷ 0xbfe8_6aa8_e1dd_4674 ∷ 0x3fe4_af1a_67fa_b4f1 ∷ 0x3fe4_af1a_67fa_b4f1 ∷ 0x3fe8_6aa8_e1dd_4674 ∷ [])
    ∷ svd 2 2 (one ∷ two ∷ three ∷ four ∷ []) 3 turned_decomposition
    ∷ solve 2 2 0 turned_decomposition (one ∷ three ∷ []) 0 (0x3ff0_0000_0000_0002 ∷ 0xbcb8_0000_0000_0000 ∷ [])
    ∷ pseudo_inverse 2 2 0 turned_decomposition 0 (0xc000_0000_0000_0001 ∷ 0x3ff0_0000_0000_0001 ∷ 0x3ff8_0000_0000_0001 ∷ 0xbfe0_0000_0000_0002 ∷ [])
    ∷ qr_q 2 2 (one ∷ one ∷ one ∷ two ∷ []) (0x3fe6_a09e_667f_3bcc ∷ 0xbfe6_a09e_667f_3bcc ∷ 0x3fe6_a09e_667f_3bcc ∷ 0x3fe6_a09e_667f_3bcc ∷ [])
    ∷ []) ≡ true
t39_turned = turned_worked

-- `lanczos` with k = 1, twice, computed by the definitions; the bits are the oracle's. These two rows and `qr_q`'s were chosen since the oracle with one round in place of two gives other bits.
pub t39_led : all
    (lanczos 2 1 (one ∷ one ∷ one ∷ one ∷ []) (one ∷ two ∷ []) 1 1 (two ∷ 0x3fe6_a09e_667f_3bcc ∷ 0x3fe6_a09e_667f_3bcd ∷ [])
    ∷ lanczos 3 1 (three ∷ one ∷ 0 ∷ one ∷ 0 ∷ 0 ∷ 0 ∷ 0 ∷ 0 ∷ []) (one ∷ two ∷ three ∷ []) 1 5 (0x400a_6c15_a230_acf8 ∷ 0x3fee_a07f_7521_0d17 ∷ 0x3fd2_8bd2_d061_0649 ∷ 0 ∷ [])
    ∷ []) ≡ true
t39_led = led_worked

-- The eigen run of (2 1 / 1 2) in steps: behind the start no pass has been run, behind the first step one; the record and both arrays.
pub t39_stepwise : all
    (steps 0 2 (two ∷ one ∷ one ∷ two ∷ []) 0 0 0 0 0 (minus_one ∷ 0 ∷ []) (two ∷ two ∷ minus_one ∷ 0 ∷ 0 ∷ one ∷ [])
    ∷ steps 1 2 (two ∷ one ∷ one ∷ two ∷ []) 1 1 three three 1 (0 ∷ 0 ∷ []) (three ∷ 0xbfff_ffff_ffff_ffff ∷ 0x3fe6_a09e_667f_3bcc ∷ 0x3fe6_a09e_667f_3bcc ∷ 0x3fe6_a09e_667f_3bcc ∷ 0xbfe6_a09e_667f_3bcc ∷ [])
    ∷ []) ≡ true
t39_stepwise = stepwise_worked
