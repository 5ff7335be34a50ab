-- `row`: the source has this row, and what is lent is it.
use Prim.Native.Nat.{◌+◌, ◌≤◌}
use native.Mathlib.Omega.{arith}
use lib.ListN.{length}
use Rattle.scaled.proofs.Lent.{lent_room, lent_row}
use Rattle.scaled.proofs.Image.row.Goals as goal
use Rattle.scaled.proofs.Image.row.Goals.{After-row_start-from}

-- it lies in the source
room : (c : After-row_start-from) → let i = c.args.self in c.row_start-from.result + i.sides.w ≤ length i.px.now
room c = let i = c.args.self in lent_room i.px.now i.sides c.args.n i.whole c.requires c.row_start-from.ensures

pub overflow_add-result : goal.overflow_add-result
overflow_add-result c = omega (arith, room (goal.at.overflow_add-result c).After-row_start-from)

pub offset_bounds-self-from : goal.offset_bounds-self-from
offset_bounds-self-from c = omega (arith, room (goal.at.offset_bounds-self-from c).After-row_start-from)

pub slice_bounds-result-end : goal.slice_bounds-result-end
slice_bounds-result-end c = omega (arith, room (goal.at.slice_bounds-result-end c).After-row_start-from)

pub returns : goal.returns
returns c = let i = c.args.self in lent_row i.px.now i.sides c.args.n i.whole c.requires c.row_start-from.ensures
