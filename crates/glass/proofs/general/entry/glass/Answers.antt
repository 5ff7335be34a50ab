-- `glass`: nothing where a slice is too short or the box is empty; else the picture, and then the box.
use mathlib.Core.Path.{sym, ap, ◌∙◌}
use native.Mathlib.Omega.{arith}
use lib.ListN.{length}
use Rattle.geom.specs.Geom.{is_empty}
use Rattle.canvas.specs.declared.Area.{Area}
use Rattle.canvas.specs.Canvas.{area_box}
use Rattle.glass.proofs.Whole.{Still, bare_box, full_box, first_short, second_short, unpainted, box_of, Ready, lent_is, pictured_in, kept_second, painted_is, fitting}
use Rattle.glass.proofs.general.entry.glass.Goals as goal
use Rattle.glass.proofs.general.entry.glass.Goals.{Joined-then-a-n, then-a-n-via-then-a-n, then-a-n-via-else-a-n+then-b-n, Else-is_empty}

-- past the tests the slices are long enough and the box has a pixel
ready : (c : Else-is_empty) → let x = c.args in
    Ready x.size.w x.size.h x.clip x.pane.rect x.pane.style x.table.now x.px.now x.a.now c.box_on-area.result (length x.b.now) c.need-n.result
ready c =
    let x = c.args in
    let e = c.box_on-area.ensures in
    record {
      box = rw e (box_of x.size.w x.size.h x.clip x.pane.rect x.pane.style x.table.now x.px.now (full_box x.size.w x.size.h x.clip x.pane.rect x.pane.style x.table.now (length x.px.now) (ap (λ (s : Area). is_empty (area_box s)) (sym e) ∙ sym c.is_empty.ensures ∙ c.if-is_empty.false)));
      is = c.need-n.ensures;
      first = c.if-a-n.false;
      second = c.if-b-n.false;
    }

short : (c : Joined-then-a-n) → let x = c.args in Still x.size.w x.size.h x.clip x.pane.rect x.pane.style x.table.now x.px.now x.a.now x.b.now
short c =
    let x = c.args in
    elim c.then-a-n.branch [
      | then-a-n-via-then-a-n w ↦ first_short x.size.w x.size.h x.clip x.pane.rect x.pane.style x.table.now x.px.now x.a.now x.b.now (omega (arith, w.if-a-n.true, c.need-n.ensures))
      | then-a-n-via-else-a-n+then-b-n w ↦
          second_short x.size.w x.size.h x.clip x.pane.rect x.pane.style x.table.now x.px.now x.a.now x.b.now
          (omega (arith, w.if-a-n.false, c.need-n.ensures)) (omega (arith, w.if-b-n.true, c.need-n.ensures))
    ]

pub returns-then-a-n : goal.returns-then-a-n
returns-then-a-n c = record { canvas = (short c).0; first = (short c).1.0; second = (short c).1.1 }

pub returns-then-is_empty : goal.returns-then-is_empty
returns-then-is_empty c =
    let x = c.args in
    let e = ap (λ (s : Area). is_empty (area_box s)) (sym c.box_on-area.ensures) ∙ sym c.is_empty.ensures ∙ c.if-is_empty.true in
    let z = bare_box x.size.w x.size.h x.clip x.pane.rect x.pane.style x.table.now (length x.px.now) e in
    let s : Still x.size.w x.size.h x.clip x.pane.rect x.pane.style x.table.now x.px.now x.a.now x.b.now = unpainted x.size.w x.size.h x.clip x.pane.rect x.pane.style x.table.now x.px.now x.a.now x.b.now z in
    record { canvas = s.0; first = s.1.0; second = s.1.1 }

pub paint-requires : goal.paint-requires
paint-requires c = fitting (ready (goal.at.paint-requires c).Else-is_empty) c.panel_of-p.ensures (lent_is (ready (goal.at.paint-requires c).Else-is_empty) c.picture.ensures.first)

pub returns : goal.returns
returns c =
    let f = c.picture.ensures in let R = ready (goal.at.returns c).Else-is_empty in record { canvas = painted_is R c.panel_of-p.ensures (lent_is R f.first) c.paint.ensures; first = pictured_in R f.first; second = kept_second R f.second f.kept.1 }
