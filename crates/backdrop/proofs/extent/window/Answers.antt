-- `window`: its four sides are those of the definition, cut to the canvas.
use mathlib.Core.Path.{◌≡◌, refl, sym, ap, ◌∙◌}
use lib.IntN.{◌+ℤ◌, ◌-ℤ◌}
use mir.Syntax.{w32}
use mir.Val.{to_z, of_z}
use Rattle.geom.specs.declared.IRect.{IRect}
use Rattle.geom.specs.Geom.{outer_pixels}
use Rattle.geom.proofs.Sides.{cast_side}
use Rattle.geom.proofs.Laws.{low, clip}
use Rattle.backdrop.specs.Window.{area_of, window_area, margin}
use Rattle.backdrop.proofs.Laws.Window.{window_sides}
use Rattle.backdrop.proofs.extent.window.Goals as goal
use Rattle.backdrop.proofs.extent.window.Goals.{After-far-x1, After-far-y1, After-margin-m, After-near-x0, After-near-y0, After-outer_pixels-full}

-- the margin and the panel's sides, as the code reads them
step : (c : After-margin-m) → to_z w32 (of_z w32 c.margin-m.result) ≡ margin c.args.style c.args.table.now
unfolding margin
step c = cast_side c.margin-m.ensures refl

full_x0 : (c : After-outer_pixels-full) → to_z w32 (of_z w32 c.outer_pixels-full.result.x0) ≡ (outer_pixels c.args.rect).x0
unfolding outer_pixels
full_x0 c = cast_side (ap (λ (r : IRect). r.x0) c.outer_pixels-full.ensures) refl

full_y0 : (c : After-outer_pixels-full) → to_z w32 (of_z w32 c.outer_pixels-full.result.y0) ≡ (outer_pixels c.args.rect).y0
unfolding outer_pixels
full_y0 c = cast_side (ap (λ (r : IRect). r.y0) c.outer_pixels-full.ensures) refl

full_x1 : (c : After-outer_pixels-full) → to_z w32 (of_z w32 c.outer_pixels-full.result.x1) ≡ (outer_pixels c.args.rect).x1
unfolding outer_pixels
full_x1 c = cast_side (ap (λ (r : IRect). r.x1) c.outer_pixels-full.ensures) refl

full_y1 : (c : After-outer_pixels-full) → to_z w32 (of_z w32 c.outer_pixels-full.result.y1) ≡ (outer_pixels c.args.rect).y1
unfolding outer_pixels
full_y1 c = cast_side (ap (λ (r : IRect). r.y1) c.outer_pixels-full.ensures) refl

left : (c : After-near-x0) → let a = c.args in c.near-x0.result ≡ low ((outer_pixels a.rect).x0 -ℤ margin a.style a.table.now)
left c = c.near-x0.ensures ∙ rw (full_x0 c.before.before.before, step c.before.before.before.before)

top : (c : After-near-y0) → let a = c.args in c.near-y0.result ≡ low ((outer_pixels a.rect).y0 -ℤ margin a.style a.table.now)
top c = c.near-y0.ensures ∙ rw (full_y0 c.before.before.before.before.before, step c.before.before.before.before.before.before)

right : (c : After-far-x1) → let a = c.args in
    c.far-x1.result ≡ clip ((outer_pixels a.rect).x1 +ℤ margin a.style a.table.now) a.size.w
right c = c.far-x1.ensures ∙ rw (full_x1 c.before.before.before.before.before.before.before, step c.before.before.before.before.before.before.before.before)

bottom : (c : After-far-y1) → let a = c.args in
    c.far-y1.result ≡ clip ((outer_pixels a.rect).y1 +ℤ margin a.style a.table.now) a.size.h
bottom c = c.far-y1.ensures ∙ rw (full_y1 c.before.before.before.before.before.before.before.before, step c.before.before.before.before.before.before.before.before.before)

pub returns : goal.returns
unfolding window_area
returns c =
    let a = c.args in
    c.cut.ensures ∙ (rw (left (goal.at.returns c).After-near-x0, top (goal.at.returns c).After-near-y0, right (goal.at.returns c).After-far-x1, bottom (goal.at.returns c).After-far-y1)) ∙ ap area_of (sym (window_sides a.size.w a.size.h a.rect a.style a.table.now))
