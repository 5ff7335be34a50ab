-- `genie_rows`: what the rows that are left make of the canvas as it is, all rows make of the canvas as it came.
use Prim.Native.Nat.{◌+◌, ◌-◌, ◌≤◌, ◌<◌}
use mathlib.Core.Path.{refl, ◌∙◌}
use native.Mathlib.Omega.{arith}
use lib.ListN.{length}
use Rattle.sources.proofs.Laws.{IsSource, source_is}
use Rattle.canvas.proofs.Laws.Spans.{part_long}
use Rattle.scaled.proofs.Lent.{lent_room}
use Rattle.genie.specs.Genie.{genie_row}
use Rattle.genie.proofs.Strips.{lent_paints, turn_row, turn_end}
use Rattle.genie.proofs.genie_rows.Goals as goal
use Rattle.genie.proofs.genie_rows.Goals.{After-row_start-from, In-loop-sy, Start}

source : (s : Start) → IsSource s.args.sides (length s.args.src.now)
source s = source_is s.args.sides (length s.args.src.now) s.requires

pub loop-sy-init : goal.loop-sy-init
loop-sy-init c = refl

-- the row is one of the source's
row_below : (c : In-loop-sy) → c.loop-sy.sy - 1 < c.args.sides.h
row_below c = omega (arith, c.loop-sy-test.true, c.loop-sy.auto)

-- so it lies in it
room : (c : After-row_start-from) → let a = c.args in c.row_start-from.result + a.sides.w ≤ length a.src.now
room c =
    let a = c.args in
    lent_room a.src.now a.sides (c.loop-sy.sy - 1) c.requires (omega (arith, c.loop-sy-test.true, c.loop-sy.auto)) c.row_start-from.ensures

pub invariant_of-genie_row : goal.invariant_of-genie_row
invariant_of-genie_row c =
    let a = c.args in
    let from = c.row_start-from.result in
    let S = source (goal.at.invariant_of-genie_row c).Start in
    let n = part_long a.src.now from (from + a.sides.w) (omega arith) (room (goal.at.invariant_of-genie_row c).After-row_start-from) in
    record { sized = (omega (arith, n, S.wide), omega (arith, n, S.narrow)) }

pub loop-sy-preserved : goal.loop-sy-preserved
loop-sy-preserved c =
    let l = c.loop-sy in
    let a = c.args in
    let below = row_below (goal.at.loop-sy-preserved c).In-loop-sy in
    turn_row a.size.w a.size.h (genie_row a.size.w a.size.h a.clip a.src.now a.sides a.flight) l.sy l.px c.loop-sy-test.true
    (c.genie_row.ensures ∙ lent_paints a.size.w a.size.h a.clip a.src.now a.sides a.flight (l.sy - 1) l.px c.requires below c.row_start-from.ensures (c.strip_of-strip.ensures ∙ rw c.row_part.ensures refl) c.full_of-full.ensures)
    ∙ l.invariant

pub returns : goal.returns
returns c =
    let l = c.loop-sy in
    let a = c.args in
    turn_end a.size.w a.size.h (genie_row a.size.w a.size.h a.clip a.src.now a.sides a.flight) l.sy l.px c.loop-sy-test.false ∙ l.invariant

pub row_part-requires : goal.row_part-requires
row_part-requires c = (row_below c, (source (goal.at.row_part-requires c).Start).low)

pub overflow_add-row : goal.overflow_add-row
overflow_add-row c = omega (arith, room (goal.at.overflow_add-row c).After-row_start-from)

pub offset_bounds-src-from : goal.offset_bounds-src-from
offset_bounds-src-from c = omega (arith, room (goal.at.offset_bounds-src-from c).After-row_start-from)

pub slice_bounds-row-end : goal.slice_bounds-row-end
slice_bounds-row-end c = omega (arith, room (goal.at.slice_bounds-row-end c).After-row_start-from)
