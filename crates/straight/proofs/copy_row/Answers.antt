-- `copy_row`: the source's row under it, found and copied.
use mathlib.Core.Path.{◌≡◌, refl, sym, ◌∙◌}
use native.Mathlib.Omega.{arith}
use mir.Val.{SFits}
use mir.Syntax.{w32}
use lib.ListN.{length}
use Rattle.std.proofs.Common.{rules, to_z-of_z}
use Rattle.straight.specs.Straight.{place, row_pix}
use Rattle.straight.proofs.Rows.{Under, under, row_copied}
use Rattle.straight.proofs.copy_row.Goals as goal
use Rattle.straight.proofs.copy_row.Goals.{After-row_start}

row : (c : After-row_start) → c.place-sy.result ≡ place c.args.mask.blit.y c.args.y
row c = let f : SFits w32 c.args.mask.blit.y = search rules in rw (to_z-of_z f) at c.place-sy.ensures

here : (c : After-row_start) → Under c.args.sides (length c.args.src.now) (length c.args.dst.now) c.args.sx c.place-sy.result c.row_start.result
here c = under c.args.src.now c.args.mask c.requires.source c.requires.over.0 c.requires.over.1 c.requires.found.0 (row c) c.row_start.ensures

pub overflow_add-start : goal.overflow_add-start
overflow_add-start c = let r = here c in omega (arith, r.room)

pub overflow_add-row : goal.overflow_add-row
overflow_add-row c = let r = here (goal.at.overflow_add-row c).After-row_start in omega (arith, r.room)

pub offset_bounds-src-start : goal.offset_bounds-src-start
offset_bounds-src-start c = let r = here (goal.at.offset_bounds-src-start c).After-row_start in omega (arith, r.room)

pub slice_bounds-row-end : goal.slice_bounds-row-end
slice_bounds-row-end c = let r = here (goal.at.slice_bounds-row-end c).After-row_start in omega (arith, r.room)

pub has_corners-requires : goal.has_corners-requires
has_corners-requires c = let r = here (goal.at.has_corners-requires c).After-row_start in (c.requires.found.2, r.low)

pub returns-then-has_corners : goal.returns-then-has_corners
unfolding row_pix
returns-then-has_corners c =
    let o = (goal.at.returns-then-has_corners c).After-row_start in
    c.corner_row.ensures
    ∙ row_copied c.args.src.now c.args.mask c.requires.source c.requires.over.0 c.requires.over.1 c.requires.found.0 (row o) c.row_start.ensures c.args.dst.now refl c.requires.found.1
    (omega (arith, c.min-a.ensures, c.saturating_sub.ensures)) (omega (arith, c.min-b.ensures, c.saturating_sub-then-has_corners.ensures)) (sym c.if-has_corners.true ∙ c.has_corners.ensures)

pub returns-else-has_corners : goal.returns-else-has_corners
unfolding row_pix
returns-else-has_corners c =
    let o = (goal.at.returns-else-has_corners c).After-row_start in
    c.row_inner.ensures
    ∙ row_copied c.args.src.now c.args.mask c.requires.source c.requires.over.0 c.requires.over.1 c.requires.found.0 (row o) c.row_start.ensures c.args.dst.now refl c.requires.found.1
    refl refl (sym c.if-has_corners.false ∙ c.has_corners.ensures)
