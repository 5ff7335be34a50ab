-- `copied_row`: cells side by side, or one by one.
use Prim.Native.Nat.{◌+◌, ◌-◌, ◌≤◌}
use mathlib.Core.Path.{◌∙◌}
use native.Mathlib.Omega.{arith}
use lib.ListN.{length}
use Rattle.canvas.proofs.Laws.Rows.{map_row_same}
use Rattle.glass.specs.Places.{cell_at}
use Rattle.glass.proofs.Sizes.{span_in, few_bytes}
use Rattle.glass.proofs.SoftRow.{copied_pix}
use Rattle.glass.proofs.general.copied_row.Goals as goal
use Rattle.glass.proofs.general.copied_row.Goals.{After-min-row}

-- the cells lie in the picture
room : (c : After-min-row) → let a = c.args in cell_at a.view.p.lw (a.x - a.view.p.wx + length a.dst.now) c.min-row.result ≤ length a.view.lo.now
room c =
    let a = c.args in
    span_in c.args.view.sized (a.x - a.view.p.wx + length a.dst.now) c.min-row.result
    (omega arith) (omega (arith, c.min-row.ensures, c.args.view.sized.tall))

pub returns : goal.returns
returns c =
    let a = c.args in
    let row = rw c.saturating_sub.ensures at c.min-row.ensures in
    c.cells_row.ensures
    ∙ map_row_same _ _ a.dst.now (λ i h. copied_pix a.view.p a.view.lo.now a.x a.y i c.min-row.result c.requires.1 (omega arith) (omega arith) row)

pub overflow_mul-row : goal.overflow_mul-row
overflow_mul-row c = let few = few_bytes c.args.view.sized in omega (arith, room (goal.at.overflow_mul-row c).After-min-row)

pub overflow_add-row : goal.overflow_add-row
overflow_add-row c = let few = few_bytes c.args.view.sized in omega (arith, room (goal.at.overflow_add-row c).After-min-row)

pub overflow_mul-row-2 : goal.overflow_mul-row-2
overflow_mul-row-2 c = let few = few_bytes c.args.view.sized in omega (arith, room (goal.at.overflow_mul-row-2 c).After-min-row)

pub cells_row-requires : goal.cells_row-requires
cells_row-requires c = omega (arith, room (goal.at.cells_row-requires c).After-min-row)
