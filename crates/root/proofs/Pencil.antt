-- The figures of docs/ROOT.md, written from that page by tools/pencil: edit the page.
use Rattle.std.proofs.Common.{◌≡◌, ℕ, ◌+◌, ◌-◌, ◌*◌, ◌/◌, ◌^◌, cond, ltb, refl}
use lib.Count.{count_leading_zeros}
use Rattle.root.specs.Root.{whole}
use Rattle.root.specs.Parts.{sig, exp, even, half, root_bits}
use Rattle.root.specs.School.{turn, digits}
use Rattle.root.specs.declared.Found.{Found}
use Rattle.root.proofs.School.{none}

-- k turns for n
abbrev after : ℕ → ℕ → Found
after n k = digits k (n * 2 ^ 8) none

-- The number with the bit pattern b, and what the root is taken of.
abbrev Start : (b m x n : ℕ) → Type 0
Start b m x n = (sig b ≡ m) × (exp b ≡ x) × (even m x ≡ n)

-- Turn k: what is brought down, the remainder with it, the root with 01, the digit, then root and remainder.
abbrev Turn : (n k two d t digit s r : ℕ) → Type 0
Turn n k two d t digit s r =
    let w = after n (k - 1) in
    (w.r * 4 + two ≡ d) × (w.s * 4 + 1 ≡ t) × (w.s * 2 + digit ≡ s) × (turn two w ≡ record { s = s; r = r }) × (after n k ≡ record { s = s; r = r })

-- Rounded by the remainder, and the root's bit pattern y.
abbrev End : (b n q h y : ℕ) → Type 0
End b n q h y =
    let w = after n 53 in
    (cond (ltb w.s w.r) (w.s + 1) w.s ≡ q) × (half n ≡ q) × ((exp b + 969) / 2 ≡ h) × (root_bits b ≡ y)

-- ---- The root of 2

root_1_start : Start 0x4000000000000000 0x10000000000000 1076 0x20000000000000
unfolding count_leading_zeros
root_1_start = (refl, refl, refl)

root_1_1 : Turn 0x20000000000000 1 0x2 0x2 0x1 0x1 0x1 0x1
unfolding digits turn
root_1_1 = (refl, refl, refl, refl, refl)

root_1_2 : Turn 0x20000000000000 2 0 0x4 0x5 0 0x2 0x4
unfolding digits turn
root_1_2 = (refl, refl, refl, refl, refl)

root_1_3 : Turn 0x20000000000000 3 0 0x10 0x9 0x1 0x5 0x7
unfolding digits turn
root_1_3 = (refl, refl, refl, refl, refl)

root_1_4 : Turn 0x20000000000000 4 0 0x1c 0x15 0x1 0xb 0x7
unfolding digits turn
root_1_4 = (refl, refl, refl, refl, refl)

root_1_5 : Turn 0x20000000000000 5 0 0x1c 0x2d 0 0x16 0x1c
unfolding digits turn
root_1_5 = (refl, refl, refl, refl, refl)

root_1_6 : Turn 0x20000000000000 6 0 0x70 0x59 0x1 0x2d 0x17
unfolding digits turn
root_1_6 = (refl, refl, refl, refl, refl)

root_1_7 : Turn 0x20000000000000 7 0 0x5c 0xb5 0 0x5a 0x5c
unfolding digits turn
root_1_7 = (refl, refl, refl, refl, refl)

root_1_8 : Turn 0x20000000000000 8 0 0x170 0x169 0x1 0xb5 0x7
unfolding digits turn
root_1_8 = (refl, refl, refl, refl, refl)

root_1_9 : Turn 0x20000000000000 9 0 0x1c 0x2d5 0 0x16a 0x1c
unfolding digits turn
root_1_9 = (refl, refl, refl, refl, refl)

root_1_10 : Turn 0x20000000000000 10 0 0x70 0x5a9 0 0x2d4 0x70
unfolding digits turn
root_1_10 = (refl, refl, refl, refl, refl)

root_1_11 : Turn 0x20000000000000 11 0 0x1c0 0xb51 0 0x5a8 0x1c0
unfolding digits turn
root_1_11 = (refl, refl, refl, refl, refl)

root_1_12 : Turn 0x20000000000000 12 0 0x700 0x16a1 0 0xb50 0x700
unfolding digits turn
root_1_12 = (refl, refl, refl, refl, refl)

root_1_53 : Turn 0x20000000000000 53 0 0x198d4d0da05570 0x2d413cccfe7799 0 0x16a09e667f3bcc 0x198d4d0da05570
unfolding digits turn
root_1_53 = (refl, refl, refl, refl, refl)

root_1_end : End 0x4000000000000000 0x20000000000000 0x16a09e667f3bcd 1022 0x3ff6a09e667f3bcd
unfolding digits turn whole root_bits count_leading_zeros
root_1_end = (refl, refl, refl, refl)

-- ---- The root of 3 · 2^-1074

root_2_start : Start 0x0000000000000003 0x18000000000000 2 0x30000000000000
unfolding count_leading_zeros
root_2_start = (refl, refl, refl)

root_2_1 : Turn 0x30000000000000 1 0x3 0x3 0x1 0x1 0x1 0x2
unfolding digits turn
root_2_1 = (refl, refl, refl, refl, refl)

root_2_2 : Turn 0x30000000000000 2 0 0x8 0x5 0x1 0x3 0x3
unfolding digits turn
root_2_2 = (refl, refl, refl, refl, refl)

root_2_3 : Turn 0x30000000000000 3 0 0xc 0xd 0 0x6 0xc
unfolding digits turn
root_2_3 = (refl, refl, refl, refl, refl)

root_2_4 : Turn 0x30000000000000 4 0 0x30 0x19 0x1 0xd 0x17
unfolding digits turn
root_2_4 = (refl, refl, refl, refl, refl)

root_2_5 : Turn 0x30000000000000 5 0 0x5c 0x35 0x1 0x1b 0x27
unfolding digits turn
root_2_5 = (refl, refl, refl, refl, refl)

root_2_6 : Turn 0x30000000000000 6 0 0x9c 0x6d 0x1 0x37 0x2f
unfolding digits turn
root_2_6 = (refl, refl, refl, refl, refl)

root_2_7 : Turn 0x30000000000000 7 0 0xbc 0xdd 0 0x6e 0xbc
unfolding digits turn
root_2_7 = (refl, refl, refl, refl, refl)

root_2_8 : Turn 0x30000000000000 8 0 0x2f0 0x1b9 0x1 0xdd 0x137
unfolding digits turn
root_2_8 = (refl, refl, refl, refl, refl)

root_2_9 : Turn 0x30000000000000 9 0 0x4dc 0x375 0x1 0x1bb 0x167
unfolding digits turn
root_2_9 = (refl, refl, refl, refl, refl)

root_2_10 : Turn 0x30000000000000 10 0 0x59c 0x6ed 0 0x376 0x59c
unfolding digits turn
root_2_10 = (refl, refl, refl, refl, refl)

root_2_11 : Turn 0x30000000000000 11 0 0x1670 0xdd9 0x1 0x6ed 0x897
unfolding digits turn
root_2_11 = (refl, refl, refl, refl, refl)

root_2_12 : Turn 0x30000000000000 12 0 0x225c 0x1bb5 0x1 0xddb 0x6a7
unfolding digits turn
root_2_12 = (refl, refl, refl, refl, refl)

root_2_53 : Turn 0x30000000000000 53 0 0x190c8f142a9f1c 0x376cf5d0b09955 0 0x1bb67ae8584caa 0x190c8f142a9f1c
unfolding digits turn
root_2_53 = (refl, refl, refl, refl, refl)

root_2_end : End 0x0000000000000003 0x30000000000000 0x1bb67ae8584caa 485 0x1e6bb67ae8584caa
unfolding digits turn whole root_bits count_leading_zeros
root_2_end = (refl, refl, refl, refl)
