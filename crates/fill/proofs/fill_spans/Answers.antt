-- `fill_spans`: three spans lent from left to right, each by its own rule, which is the row's rule there.
use Rattle.std.proofs.Common.{◌+◌, ◌-◌, length, arith}
use Rattle.canvas.proofs.Laws.Rows.{Rowed, rowed_start, rowed_end}
use Rattle.canvas.proofs.Laws.Spans.{back, rowed_span}
use Rattle.fill.specs.Fill.{fill_pix}
use Rattle.fill.proofs.Laws.{fill_left, fill_middle, fill_right}
use Rattle.fill.proofs.fill_spans.Goals as goal
use Rattle.fill.proofs.fill_spans.Goals.{After-row_edge, After-row_middle}

-- the row after each span
one : (c : After-row_edge) → let a = c.args in
    Rowed (λ k p. fill_pix a.shape.rect a.shape.r a.shape.paint (a.x0 + k) a.y p) a.dst.now (back 0 (a.middle.from - a.x0) a.dst.now c.row_edge.new.dst) (a.middle.from - a.x0)
one c =
    let a = c.args in
    let q = c.requires.columns in
    rowed_span _ (a.middle.from - a.x0) rowed_start (omega arith) (omega (arith, q))
    (λ k p h. fill_left a.shape.paint q (a.x0 + (0 + k)) (a.x0 + k) p (omega arith) (omega arith) (omega (arith, q)) (omega (arith, q)))
    c.row_edge.ensures

two : (c : After-row_middle) → let a = c.args in
    Rowed (λ k p. fill_pix a.shape.rect a.shape.r a.shape.paint (a.x0 + k) a.y p) a.dst.now
    (back (a.middle.from - a.x0) (a.middle.to - a.x0) (back 0 (a.middle.from - a.x0) a.dst.now c.row_edge.new.dst) c.row_middle.new.dst) (a.middle.to - a.x0)
two c =
    let a = c.args in
    let q = c.requires.columns in
    let w = one c.before.before.before.before in
    rowed_span _ (a.middle.to - a.x0) w (omega (arith, q)) (omega (arith, q, w.long))
    (λ k p h. fill_middle a.shape.paint q (a.x0 + ((a.middle.from - a.x0) + k)) (a.middle.from + k) p (omega (arith, q)) (omega (arith, q)) (omega (arith, q)) (omega arith) (omega (arith, q)))
    c.row_middle.ensures

pub returns : goal.returns
returns c =
    let a = c.args in
    let q = c.requires.columns in
    let w = two (goal.at.returns c).After-row_middle in
    let v = rowed_span _ (length a.dst.now) w (omega (arith, q)) (omega (arith, w.long))
    (λ k p h. fill_right a.shape.paint q (a.x0 + ((a.middle.to - a.x0) + k)) (a.middle.to + k) p (omega (arith, q)) (omega (arith, q)) (omega (arith, q)) (omega arith))
    c.row_edge-2.ensures in
    rowed_end v (omega (arith, v.long))
