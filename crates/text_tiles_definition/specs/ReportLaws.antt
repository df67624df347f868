-- The report put to a buffer line by line, and how long it is. Laws only.
use Rattle.std.specs.Prelude.{◌≡◌, refl, List, ℕ, zero, suc, ◌+◌, ◌-◌, ◌*◌, ◌<◌, ◌≤◌, length, get_or, set, take}
use Rattle.std.proofs.Common.{sym, ap, ◌∙◌, add-one, arith, lt-ltb, ne_eqb, length-append, length-take-le}
use Rattle.std.proofs.Math.Seq.{length-sets}
use Rattle.text.specs.Writing.{number, joined, written}
use Rattle.text.specs.Stores.{append, append_then, number_most}
use Rattle.tally_definition.specs.declared.Tally.{Tally}
use Rattle.text_tiles_definition.specs.Report.{figure, figure_line, end_text, report_text}

pub figures_none : (t : Tally) (out : List ℕ) → ◌≡◌ {A = ℕ × List ℕ} (0, out) (append (0, out) (joined (figure_line t) 0))
unfolding joined
figures_none t out = refl

pub figures_more : (t : Tally) (k : ℕ) (s u v : ℕ × List ℕ) → u ≡ append s (joined (figure_line t) k) → v ≡ append u (figure_line t k)
    → v ≡ append s (joined (figure_line t) (k + 1))
unfolding joined
figures_more t k s u v e f = rw add-one (append_then s u v (joined (figure_line t) k) (figure_line t k) e f)

pub figures_short : (t : Tally) (m : ℕ) → length (joined (figure_line t) m) ≤ 21 * m
unfolding joined
figures_short t zero = omega arith
figures_short t (suc m) = rw (length-append (joined (figure_line t) m) (figure_line t m)) (omega (arith, figures_short t m, number_most (figure t m) 10))

-- ---- figure by figure, as the code puts them

module _ (t : Tally) where
  pub tiles_figure : t.tiles ≡ figure t 0
  unfolding figure
  tiles_figure = refl

  pub count_figure : (i : ℕ) → i < 16 → get_or t.counts i 0 ≡ figure t (i + 1)
  unfolding figure
  count_figure i h =
      let e : i + 1 - 1 ≡ i = omega arith in
      rw (ne_eqb (i + 1) 0 (λ (z : i + 1 ≡ 0). omega arith), lt-ltb (i + 1) 17 (omega arith), e)

  pub passes_figure : t.passes ≡ figure t 17
  unfolding figure
  passes_figure = refl

  pub most_figure : t.most ≡ figure t 18
  unfolding figure
  most_figure = refl

  pub first_figure : t.first ≡ figure t 19
  unfolding figure
  first_figure = refl

  pub figure_put : (k x : ℕ) (s u v : ℕ × List ℕ) → x ≡ figure t k → u ≡ append s (joined (figure_line t) k) → v ≡ append u (number x 10)
      → v ≡ append s (joined (figure_line t) (k + 1))
  figure_put k x s u v p e f = figures_more t k s u v e (f ∙ ap (λ (n : ℕ). append u (number n 10)) p)

  -- the place behind the first k
  pub figure_place : (k at : ℕ) (l out : List ℕ) → ◌≡◌ {A = ℕ × List ℕ} (at, l) (append (0, out) (joined (figure_line t) k)) → at ≤ 21 * k
  figure_place k at l out e =
      let p : at ≡ 0 + length (joined (figure_line t) k) = ap (λ (s : ℕ × List ℕ). s.0) e in
      omega (arith, figures_short t k)

pub end_put : (at : ℕ) (out : List ℕ) → ◌≡◌ {A = ℕ × List ℕ} (at + 4, set (set (set (set out at 101) (at + 1) 110) (at + 2) 100) (at + 3) 10) (append (at, out) end_text)
end_put at out =
    let a : suc at ≡ at + 1 = omega arith in
    let b : suc (suc at) ≡ at + 2 = omega arith in
    let c : suc (suc (suc at)) ≡ at + 3 = omega arith in
    rw (c, b, a)

-- what a caller with room for it has of the report
pub report_fits : (t : Tally) (out new : List ℕ) (r : ℕ) → 424 ≤ length out → ◌≡◌ {A = ℕ × List ℕ} (r, new) (written (report_text t) out) → (r ≤ length new) × (r ≡ length (take r new))
report_fits t out new r h e =
    let a : r ≡ length (report_text t) = ap (λ (s : ℕ × List ℕ). s.0) e in
    let b : length new ≡ length out = ap (λ (s : ℕ × List ℕ). length s.1) e ∙ length-sets out 0 (report_text t) in
    let c : length (report_text t) ≡ length (joined (figure_line t) 20) + 4 = length-append (joined (figure_line t) 20) end_text in
    let f : r ≤ length new = omega (arith, figures_short t 20) in
    (f, sym (length-take-le r new f))
