-- `whole_row`: the two spans join from left to right.
use Prim.Native.Nat.{ℕ, ◌+◌, ◌-◌, ◌*◌, ◌/◌, ◌≤◌}
use mathlib.Core.Path.{ap}
use native.Mathlib.Omega.{arith}
use lib.ListN.{length, length-take}
use lib.Seq.{length-take-le}
use Rattle.canvas.proofs.Laws.Rows.{rowed_end}
use Rattle.glass.specs.Places.{cell_at}
use Rattle.glass.proofs.Sizes.{place_next, span_in}
use Rattle.glass.proofs.FlatRow.{whole_is, two}
use Rattle.glass.proofs.whole_row.Goals as goal
use Rattle.glass.proofs.whole_row.Goals.{After-min-m}

-- the cells lie in the picture
room : (c : After-min-m) → let a = c.args in cell_at a.view.p.lw (c.min-col.result + c.min-m.result) (c.row_place-row.result / 256) ≤ length a.view.lo.now
room c =
    let a = c.args in
    span_in c.args.view.sized (c.min-col.result + c.min-m.result) (c.row_place-row.result / 256)
    (omega (arith, c.min-col.ensures, c.min-m.ensures, c.requires.row.0))
    (omega (arith, c.row_place-row.ensures, place_next a.view.p.k a.view.p.lh ((a.y - a.view.p.wy) * 256) c.requires.row.1))

pub cells_row-requires : goal.cells_row-requires
cells_row-requires c = let l = c.args.dst.now in omega (arith, room (goal.at.cells_row-requires c).After-min-m, length-take-le c.min-m.result l (omega (arith, c.min-m.ensures)))

pub overflow_add-x : goal.overflow_add-x
overflow_add-x c = omega (arith, c.requires.row.2, c.min-m.ensures)

pub mixed_row-requires : goal.mixed_row-requires
mixed_row-requires c = let z = c.requires.row in (z.0, z.1, simp length-take (omega (arith, z.2, c.min-m.ensures)))

pub returns : goal.returns
returns c =
    let a = c.args in
    let W = whole_is a.view.p a.x a.y c.requires.whole in
    let col = rw c.saturating_sub.ensures at c.min-col.ensures in
    let at = ap (λ (f : ℕ). cell_at a.view.p.lw c.min-col.result (f / 256)) c.row_place-row.ensures in
    let R = two a.view.p a.view.lo.now a.x a.y W col c.min-m.ensures at c.cells_row.ensures c.mixed_row.ensures in
    rowed_end R (omega (arith, R.long))

pub overflow_mul-row : goal.overflow_mul-row
overflow_mul-row c = omega (arith, room (goal.at.overflow_mul-row c).After-min-m)

pub overflow_add-row : goal.overflow_add-row
overflow_add-row c = omega (arith, room (goal.at.overflow_add-row c).After-min-m)

pub overflow_mul-row-2 : goal.overflow_mul-row-2
overflow_mul-row-2 c = omega (arith, room (goal.at.overflow_mul-row-2 c).After-min-m)
