-- `genie_row`: a box that is empty changes nothing; otherwise it is one row, lent on.
use Prim.Native.Nat.{◌+◌, ◌*◌, ◌≤◌}
use mathlib.Core.Path.{◌≡◌, refl, sym, ap, ◌∙◌}
use native.Mathlib.Omega.{arith}
use lib.ListN.{length}
use Rattle.canvas.proofs.Laws.Spans.{part_long}
use Rattle.canvas.specs.Canvas.{area_on}
use Rattle.canvas.proofs.Laws.Area.{OnCanvas}
use Rattle.scaled.proofs.Boxes.{box_none, box_some}
use Rattle.genie.specs.Genie.{strip_box}
use Rattle.genie.proofs.Strips.{row_room, row_painted}
use Rattle.genie.proofs.genie_row.Goals as goal
use Rattle.genie.proofs.genie_row.Goals.{After-area_on-area, Then-not-is_empty}

-- the code's box
area : (c : After-area_on-area) → let a = c.args in c.area_on-area.result ≡ area_on (length a.px.now) a.size.w a.size.h a.clip (strip_box a.band.strip)
area c = let a = c.args in c.area_on-area.ensures.sides ∙ ap (area_on (length a.px.now) a.size.w a.size.h a.clip) c.strip_box.ensures

pub returns-else-not-is_empty : goal.returns-else-not-is_empty
returns-else-not-is_empty c =
    let a = c.args in
    box_none a.size.w a.size.h a.clip (strip_box a.band.strip) a.px.now (area (goal.at.returns-else-not-is_empty c).After-area_on-area) _ (sym c.is_empty.ensures ∙ c.if-not-is_empty.false)

here : (c : Then-not-is_empty) → let a = c.args in OnCanvas a.size.w a.size.h a.clip (strip_box a.band.strip) a.px.now c.area_on-area.result
here c =
    let a = c.args in
    box_some a.size.w a.size.h a.clip (strip_box a.band.strip) a.px.now (c.area_on-area.ensures.sides ∙ ap (area_on (length a.px.now) a.size.w a.size.h a.clip) c.strip_box.ensures) (sym c.is_empty.ensures ∙ c.if-not-is_empty.true)

room : (c : Then-not-is_empty) → let r = c.area_on-area.result in let a = c.args in
    (r.y0 * a.size.w + r.x0 ≤ r.y0 * a.size.w + r.x1) × (r.y0 * a.size.w + r.x1 ≤ length a.px.now) × (r.y0 * a.size.w + r.x1 ≤ 16777216)
room c = row_room c.args.band.strip (here c)

pub genie_spans-requires : goal.genie_spans-requires
genie_spans-requires c =
    let a = c.args in
    let r = c.area_on-area.result in
    let q = room (goal.at.genie_spans-requires c).Then-not-is_empty in
    let o = here (goal.at.genie_spans-requires c).Then-not-is_empty in
    record { room = (omega (arith, part_long a.px.now (r.y0 * a.size.w + r.x0) (r.y0 * a.size.w + r.x1) q.0 q.1, o.across, o.in_width, o.canvas.narrow), c.requires.room) }

pub returns-then-not-is_empty : goal.returns-then-not-is_empty
returns-then-not-is_empty c = row_painted c.args.band.strip (here (goal.at.returns-then-not-is_empty c).Then-not-is_empty) _ _ (λ i p h. refl) c.genie_spans.ensures

pub overflow_mul-from : goal.overflow_mul-from
overflow_mul-from c = omega (arith, room (goal.at.overflow_mul-from c).Then-not-is_empty)

pub overflow_add-from : goal.overflow_add-from
overflow_add-from c = omega (arith, room (goal.at.overflow_add-from c).Then-not-is_empty)

pub overflow_mul-to : goal.overflow_mul-to
overflow_mul-to c = omega (arith, room (goal.at.overflow_mul-to c).Then-not-is_empty)

pub overflow_add-to : goal.overflow_add-to
overflow_add-to c = omega (arith, room (goal.at.overflow_add-to c).Then-not-is_empty)

pub offset_bounds-px-from : goal.offset_bounds-px-from
offset_bounds-px-from c = omega (arith, room (goal.at.offset_bounds-px-from c).Then-not-is_empty)

pub slice_bounds-genie_spans-count : goal.slice_bounds-genie_spans-count
slice_bounds-genie_spans-count c = omega (arith, room (goal.at.slice_bounds-genie_spans-count c).Then-not-is_empty)

pub slice_bounds-genie_spans-start : goal.slice_bounds-genie_spans-start
slice_bounds-genie_spans-start c = omega (arith, room (goal.at.slice_bounds-genie_spans-start c).Then-not-is_empty)

pub slice_bounds-genie_spans-end : goal.slice_bounds-genie_spans-end
slice_bounds-genie_spans-end c = omega (arith, room (goal.at.slice_bounds-genie_spans-end c).Then-not-is_empty)
