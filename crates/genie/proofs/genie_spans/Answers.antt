-- `genie_spans`: each turn lends one span; the last ends with the row.
use Prim.Native.Nat.{ℕ, ◌+◌}
use mathlib.Core.Path.{◌≡◌, ap}
use native.Mathlib.Omega.{arith}
use Rattle.canvas.proofs.Laws.Rows.{Rowed, rowed_start, rowed_skip, rowed_end}
use Rattle.canvas.proofs.Laws.Spans.{rowed_span, back}
use Rattle.genie.specs.Private.{row_pix}
use Rattle.genie.proofs.genie_spans.Goals as goal
use Rattle.genie.proofs.genie_spans.Goals.{After-genie_span}

pub loop-at-init : goal.loop-at-init
loop-at-init c = rowed_start

-- the span is painted, too
spanned : (c : After-genie_span) → let l = c.loop-at in let a = c.args in
    Rowed (λ i p. row_pix a.band.row.now a.band.strip a.band.full (a.x + i) p) a.dst.now (back l.at c.strip_end-end.result l.dst c.genie_span.new.dst) c.strip_end-end.result
spanned c =
    let l = c.loop-at in
    let a = c.args in
    rowed_span _ _ l.invariant (omega (arith, c.loop-at-test.true, c.strip_end-end.ensures)) (omega (arith, c.strip_end-end.ensures, l.invariant.long))
    (λ i p _. let at : a.x + (l.at + i) ≡ a.x + l.at + i = omega arith in ap (λ (m : ℕ). row_pix a.band.row.now a.band.strip a.band.full m p) at) c.genie_span.ensures

pub loop-at-preserved : goal.loop-at-preserved
loop-at-preserved c =
    let R = spanned (goal.at.loop-at-preserved c).After-genie_span in
    let e : c.strip_end-end.result ≡ c.loop-at.at + 2048 = omega (arith, c.strip_end-end.ensures) in
    rowed_skip (c.loop-at.at + 2048) R (omega arith) (omega (arith, R.within)) (λ k p a b. absurd (omega arith))

pub returns : goal.returns
returns c = rowed_end c.loop-at.invariant (omega (arith, c.loop-at-test.false, c.loop-at.invariant.long))

pub returns-2 : goal.returns-2
returns-2 c =
    let R = spanned (goal.at.returns-2 c).After-genie_span in
    rowed_end R (omega (arith, R.long, c.strip_end-end.ensures))
