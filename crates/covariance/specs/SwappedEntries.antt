-- Entry (x, y) is entry (y, x), and where an entry stands. Laws only.
use Rattle.std.specs.Prelude.{◌≡◌, List, ℕ, ◌+◌, ◌*◌, ◌<◌, ℤ, pos, ◌+ℤ◌, ◌-ℤ◌, ◌*ℤ◌}
use Rattle.std.proofs.Common.{ap, ◌∙◌}
use Rattle.std.proofs.Math.IntN.{*ℤ_comm}
use Rattle.grid.specs.LoopLaws.{upto_same}
use Rattle.grid.specs.CellLaws.{place_row, place_column}
use Rattle.covariance.specs.MatrixEntries.{band, whole, cell_at}
use Rattle.covariance.specs.SampleSums.{sample_at, total, products}

products_swap : (N : ℕ) (a b : List ℤ) → products N a b ≡ products N b a
unfolding products
products_swap N a b =
    upto_same (λ k s. s +ℤ sample_at a k *ℤ sample_at b k) (λ k s. s +ℤ sample_at b k *ℤ sample_at a k) 0 N (pos 0)
    (λ k s _ _. ap (λ (z : ℤ). s +ℤ z) (*ℤ_comm (sample_at a k) (sample_at b k)))

pub whole_swap : (samples : List ℤ) (N x y : ℕ) → whole samples N x y ≡ whole samples N y x
unfolding whole
whole_swap samples N x y =
    let a = band samples N x in
    let b = band samples N y in
    ap (λ (z : ℤ). pos N *ℤ z -ℤ total N a *ℤ total N b) (products_swap N a b) ∙ ap (λ (z : ℤ). pos N *ℤ products N b a -ℤ z) (*ℤ_comm (total N a) (total N b))

-- entry x * n + y is that of bands x and y
pub cell_is : (n N : ℕ) (samples : List ℤ) (x y : ℕ) → y < n → cell_at n N samples (x * n + y) ≡ whole samples N x y
cell_is n N samples x y h = rw (place_row n x y h, place_column n x y h)
