-- `row_along`: the loop's invariant is `Rowed` at the pixel's rule; a turn adds a span.
use Rattle.std.proofs.Common.{ℕ, ◌+◌, ◌≡◌, min, length, sym, ap, arith}
use Rattle.canvas.proofs.Laws.Rows.{Rowed, rowed_start, rowed_end}
use Rattle.canvas.proofs.Laws.Spans.{back, rowed_span, part_long}
use Rattle.fill.specs.Fill.{inner_pix}
use Rattle.fill.proofs.Gradient.row_along.Goals as goal
use Rattle.fill.proofs.Gradient.row_along.Goals.{After-row_part}

pub loop-i-init : goal.loop-i-init
loop-i-init c = let e : min 0 (length c.args.dst.now) ≡ 0 = omega arith in rw e rowed_start

pub row_part-requires : goal.row_part-requires
row_part-requires c =
    let e = c.strip_end-e in
    let l = c.loop-i in
    let long = part_long l.dst l.i e.result (omega (arith, e.ensures)) (omega (arith, e.ensures)) in
    (omega (arith, long, e.ensures), omega (arith, long, e.ensures, c.requires))

-- the row after a turn
turned : (c : After-row_part) → let a = c.args in
    Rowed (λ k p. inner_pix a.self.paint (a.x + k) a.y p) a.dst.now (back c.loop-i.i c.strip_end-e.result c.loop-i.dst c.row_part.new.dst) c.strip_end-e.result
turned c =
    let e = c.strip_end-e in
    let l = c.loop-i in
    let a = c.args in
    let here : min l.i (length a.dst.now) ≡ l.i = omega arith in
    rowed_span _ e.result (rw here at l.invariant) (omega (arith, e.ensures)) (omega (arith, e.ensures))
    (λ k p h. let v : a.x + (l.i + k) ≡ a.x + l.i + k = omega arith in ap (λ (u : ℕ). inner_pix a.self.paint u a.y p) v)
    c.row_part.ensures

pub loop-i-preserved : goal.loop-i-preserved
loop-i-preserved c = rw (sym c.strip_end-e.ensures) (turned (goal.at.loop-i-preserved c).After-row_part)

pub returns : goal.returns
returns c = rowed_end c.loop-i.invariant (omega (arith, c.loop-i-test.false, c.loop-i.invariant.long))

-- past the last place that a usize has
pub returns-2 : goal.returns-2
returns-2 c = let t = turned (goal.at.returns-2 c).After-row_part in rowed_end t (omega (arith, t.long, c.strip_end-e.ensures))
