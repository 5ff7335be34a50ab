-- `inside_pix`: the cell itself, or the place between four.
use Prim.Native.Nat.{◌+◌, ◌-◌, ◌*◌, ◌≤◌}
use native.Mathlib.Omega.{arith}
use lib.ListN.{length}
use borrow.Author.Tests.{eq-eqb, ne_eqb}
use Rattle.glass.specs.Places.{cell_at}
use Rattle.glass.specs.General as General
use Rattle.glass.proofs.Sizes.{place_in, cell_in}
use Rattle.glass.proofs.general.inside_pix.Goals as goal
use Rattle.glass.proofs.general.inside_pix.Goals.{After-min-row}

room : (c : After-min-row) → let a = c.args in cell_at a.view.p.lw c.min-col.result c.min-row.result + 3 ≤ length a.view.lo.now
room c = cell_in c.args.view.sized c.min-col.result c.min-row.result (omega (arith, c.min-col.ensures, c.args.view.sized.wide)) (omega (arith, c.min-row.ensures, c.args.view.sized.tall))

pub returns-then-view-eq1 : goal.returns-then-view-eq1
unfolding General.inside_pix
returns-then-view-eq1 c = rw (eq-eqb _ _ c.if-view-eq1.true, c.lit.ensures, c.pix_at.ensures, c.min-row.ensures, c.saturating_sub-then-view-eq1.ensures, c.min-col.ensures, c.saturating_sub.ensures)

pub soft-requires : goal.soft-requires
soft-requires c =
    let a = c.args in (
      rw c.col_place.ensures (place_in a.view.p.k a.view.p.lw ((a.x - a.view.p.wx) * 256) c.args.view.sized.wide),
      rw c.row_place.ensures (place_in a.view.p.k a.view.p.lh ((a.y - a.view.p.wy) * 256) c.args.view.sized.tall),
    )

pub returns : goal.returns
unfolding General.inside_pix
returns c = rw (ne_eqb _ _ c.if-view-eq1.false, c.soft.ensures, c.row_place.ensures, c.col_place.ensures)

pub overflow_mul-row : goal.overflow_mul-row
overflow_mul-row c = omega (arith, room (goal.at.overflow_mul-row c).After-min-row)

pub overflow_add-row : goal.overflow_add-row
overflow_add-row c = omega (arith, room (goal.at.overflow_add-row c).After-min-row)

pub overflow_mul-row-then-view-eq1 : goal.overflow_mul-row-then-view-eq1
overflow_mul-row-then-view-eq1 c = omega (arith, room (goal.at.overflow_mul-row-then-view-eq1 c).After-min-row)

pub pix_at-requires : goal.pix_at-requires
pix_at-requires c = room (goal.at.pix_at-requires c).After-min-row
