use Rattle.std.proofs.Common.{ℕ, List, ◌≡◌, ◌∙◌, ◌+◌, ◌≤◌, ap, arith}
use Rattle.text.specs.Writing.{number, joined}
use Rattle.text.specs.Stores.{append}
use Rattle.tally_definition.specs.declared.Tally.{Tally}
use Rattle.text_tiles_definition.specs.Report.{figure_line}
use Rattle.text_tiles_definition.specs.ReportLaws.{figures_none, tiles_figure, count_figure, passes_figure, most_figure, first_figure, figure_put, figure_place}
use Rattle.text_tiles.proofs.write.put_figures.Goals as goal

pub loop-count-init : goal.loop-count-init
loop-count-init c =
    figure_put c.args.t.now 0 c.args.t.now.tiles (0, c.args.out.now) (0, c.args.out.now) (c.put_number-at.result, c.put_number-at.new.out) (tiles_figure c.args.t.now)
    (figures_none c.args.t.now c.args.out.now) c.put_number-at.ensures

pub put_number-at-requires-in-loop-count : goal.put_number-at-requires-in-loop-count
put_number-at-requires-in-loop-count c = omega (arith, figure_place c.args.t.now (c.loop-count.count-index + 1) _ _ _ c.loop-count.invariant, c.loop-count-test.true)

pub loop-count-preserved : goal.loop-count-preserved
loop-count-preserved c =
    figure_put c.args.t.now (c.loop-count.count-index + 1) _ (0, c.args.out.now) (c.loop-count.at, c.loop-count.out) (c.put_number-at-in-loop-count.result, c.put_number-at-in-loop-count.new.out)
    (count_figure c.args.t.now c.loop-count.count-index (omega (arith, c.loop-count-test.true))) c.loop-count.invariant c.put_number-at-in-loop-count.ensures

-- the figures behind the counts, where s holds those up to them
module _ (t : Tally) (o : List ℕ) (i : ℕ) (s a b d : ℕ × List ℕ) (e : s ≡ append (0, o) (joined (figure_line t) (i + 1))) (l : 16 ≤ i) (h : i ≤ 16) where
  counted : s ≡ append (0, o) (joined (figure_line t) 17)
  counted =
      let k : i + 1 ≡ 17 = omega arith in
      e ∙ ap (λ (m : ℕ). append (0, o) (joined (figure_line t) m)) k

  module _ (p : a ≡ append s (number t.passes 10)) where
    passed : a ≡ append (0, o) (joined (figure_line t) 18)
    passed = figure_put t 17 t.passes (0, o) s a (passes_figure t) counted p

    module _ (q : b ≡ append a (number t.most 10)) where
      led : b ≡ append (0, o) (joined (figure_line t) 19)
      led = figure_put t 18 t.most (0, o) a b (most_figure t) passed q

      whole : d ≡ append b (number t.first 10) → d ≡ append (0, o) (joined (figure_line t) 20)
      whole r = figure_put t 19 t.first (0, o) b d (first_figure t) led r

pub put_number-at-requires-2 : goal.put_number-at-requires-2
put_number-at-requires-2 c = omega (arith, figure_place c.args.t.now (c.loop-count.count-index + 1) _ _ _ c.loop-count.invariant)

pub put_number-at-requires-3 : goal.put_number-at-requires-3
put_number-at-requires-3 c =
    let s : ℕ × List ℕ = (c.loop-count.at, c.loop-count.out) in
    let a : ℕ × List ℕ = (c.put_number-at-2.result, c.put_number-at-2.new.out) in
    omega (arith, figure_place c.args.t.now 18 _ _ _ (passed c.args.t.now c.args.out.now c.loop-count.count-index s a a a c.loop-count.invariant c.loop-count-test.false c.loop-count.auto.count-index-end c.put_number-at-2.ensures))

pub put_number-requires : goal.put_number-requires
put_number-requires c =
    let s : ℕ × List ℕ = (c.loop-count.at, c.loop-count.out) in
    let a : ℕ × List ℕ = (c.put_number-at-2.result, c.put_number-at-2.new.out) in
    let b : ℕ × List ℕ = (c.put_number-at-3.result, c.put_number-at-3.new.out) in
    omega (arith, figure_place c.args.t.now 19 _ _ _ (led c.args.t.now c.args.out.now c.loop-count.count-index s a b b c.loop-count.invariant c.loop-count-test.false c.loop-count.auto.count-index-end c.put_number-at-2.ensures c.put_number-at-3.ensures))

pub returns : goal.returns
returns c =
    let s : ℕ × List ℕ = (c.loop-count.at, c.loop-count.out) in
    let a : ℕ × List ℕ = (c.put_number-at-2.result, c.put_number-at-2.new.out) in
    let b : ℕ × List ℕ = (c.put_number-at-3.result, c.put_number-at-3.new.out) in
    let d : ℕ × List ℕ = (c.put_number.result, c.put_number.new.out) in
    whole c.args.t.now c.args.out.now c.loop-count.count-index s a b d c.loop-count.invariant c.loop-count-test.false c.loop-count.auto.count-index-end c.put_number-at-2.ensures c.put_number-at-3.ensures c.put_number.ensures
