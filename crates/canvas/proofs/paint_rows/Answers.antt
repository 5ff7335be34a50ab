-- `paint_rows`: the loop's invariant is `Boxing` at every rule that says what f makes of a row.
use Rattle.std.proofs.Common.{rules, ℕ, ◌+◌, ◌*◌, ◌-◌, length, take, drop, refl, sym, ◌∙◌}
use native.Mathlib.Omega.{arith}
use Rattle.canvas.specs.Canvas.{RowOf}
use Rattle.canvas.proofs.Laws.Area.{IsCanvas, canvas_is, painted_off, painted_on_lem}
use Rattle.canvas.proofs.Laws.Box.{box_start, box_room, box_row, box_end_cut, no_column, no_row}
use Rattle.canvas.proofs.Laws.Spans.{part_long}
use Rattle.canvas.proofs.paint_rows.Goals as goal
use Rattle.canvas.proofs.paint_rows.Goals.{then-not-is_canvas-via-then-not-is_canvas, then-not-is_canvas-via-else-not-is_canvas+then-x1-area, then-not-is_canvas-via-else-not-is_canvas+else-x1-area+then-y1-area}

pub loop-y-init : goal.loop-y-init
loop-y-init g c =
    let on : IsCanvas c.args.size.w c.args.size.h (length c.args.px.now) = canvas_is _ _ _ (sym c.is_canvas.ensures ∙ c.if-not-is_canvas.false) in
    (on, search rules, search rules, λ rule says. box_start on.size (search rules) (search rules) (search rules) (search rules))

pub loop-y-preserved : goal.loop-y-preserved
loop-y-preserved g c =
    let inv = c.loop-y.invariant in
    let a = c.args.area in
    let from : ℕ = c.loop-y.y * c.args.size.w + a.x0 in
    let to : ℕ = c.loop-y.y * c.args.size.w + c.min-x1.result in (
      inv.0,
      inv.1,
      inv.2,
      λ rule says.
          let B = inv.3 rule says in
          let room = box_room B c.loop-y-test.true in
          let long = part_long c.loop-y.px from to room.0 room.1 in
          let row : RowOf c.args.size.w c.args.size.h a c.loop-y.y (length (take (to - from) (drop from c.loop-y.px))) = record {
            from = B.from;
            to = omega (arith, c.loop-y-test.true, inv.2);
            low = omega (arith, c.loop-y-test.true, inv.2);
            some = omega (arith, long, c.if-x1-area.false);
            columns = omega (arith, long, inv.1, room.0);
            wide = inv.0.narrow;
            high = inv.0.low;
          } in
          box_row _ B c.loop-y-test.true (λ i p _. refl) (says _ _ _ row c.f.ensures),
    )

pub returns-then-not-is_canvas : goal.returns-then-not-is_canvas
returns-then-not-is_canvas g c = λ rule says.
    elim c.then-not-is_canvas.branch [
      | then-not-is_canvas-via-then-not-is_canvas w ↦ painted_off _ _ _ _ (sym c.is_canvas.ensures ∙ w.if-not-is_canvas.true)
      | then-not-is_canvas-via-else-not-is_canvas+then-x1-area w ↦
          let t = sym c.is_canvas.ensures ∙ w.if-not-is_canvas.false in
          no_column _ _ _ _ _ _ rule _ (canvas_is _ _ _ t).size (search rules) ∙ painted_on_lem _ _ _ _ t
      | then-not-is_canvas-via-else-not-is_canvas+else-x1-area+then-y1-area w ↦
          let t = sym c.is_canvas.ensures ∙ w.if-not-is_canvas.false in
          no_row _ _ _ _ _ _ rule _ (canvas_is _ _ _ t).size (search rules) ∙ painted_on_lem _ _ _ _ t
    ]

pub returns : goal.returns
returns g c = λ rule says.
    let inv = c.loop-y.invariant in
    box_end_cut _ _ (inv.3 rule says) (search rules) inv.1 inv.2 ∙ painted_on_lem _ _ _ _ (sym c.is_canvas.ensures ∙ c.if-not-is_canvas.false)
