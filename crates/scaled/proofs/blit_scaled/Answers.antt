-- `blit_scaled`: what is no source, a rectangle of less than a pixel, no alpha and an empty box change nothing; otherwise the box is copied.
use mathlib.Core.Path.{◌≡◌, sym, ap, ◌∙◌}
use native.Mathlib.Omega.{arith}
use lib.ListN.{length}
use Rattle.geom.specs.Geom.{outer_pixels}
use Rattle.canvas.specs.Canvas.{painted, area_on}
use Rattle.canvas.proofs.Laws.Area.{OnCanvas, painted_on_lem}
use Rattle.scaled.specs.Scaled.{scaled_rule}
use Rattle.scaled.proofs.Boxes.{box_none, box_some}
use Rattle.scaled.proofs.Rows.{no_source, no_copy_lem, stretched}
use Rattle.scaled.proofs.blit_scaled.Goals as goal
use Rattle.scaled.proofs.blit_scaled.Goals.{After-area_on-area, Then-not-is_empty, else-is_source-via-then-is_source+else-not-no_copy, else-is_source-via-else-is_source}

-- the code's box
area : (c : After-area_on-area) → let a = c.args in c.area_on-area.result ≡ area_on (length a.px.now) a.size.w a.size.h a.clip (outer_pixels a.stretch.dest)
area c = let a = c.args in c.area_on-area.ensures.sides ∙ ap (area_on (length a.px.now) a.size.w a.size.h a.clip) c.outer_pixels.ensures

here : (c : Then-not-is_empty) → let a = c.args in OnCanvas a.size.w a.size.h a.clip (outer_pixels a.stretch.dest) a.px.now c.area_on-area.result
here c =
    let a = c.args in
    box_some a.size.w a.size.h a.clip (outer_pixels a.stretch.dest) a.px.now (c.area_on-area.ensures.sides ∙ ap (area_on (length a.px.now) a.size.w a.size.h a.clip) c.outer_pixels.ensures) (sym c.is_empty.ensures ∙ c.if-not-is_empty.true)

pub scaled_strips-requires-clause-canvas : goal.scaled_strips-requires-clause-canvas
scaled_strips-requires-clause-canvas c = let o = here (goal.at.scaled_strips-requires-clause-canvas c).Then-not-is_empty in (o.canvas.size, o.canvas.narrow, o.canvas.low)

pub scaled_strips-requires-clause-inside : goal.scaled_strips-requires-clause-inside
scaled_strips-requires-clause-inside c =
    let o = here (goal.at.scaled_strips-requires-clause-inside c).Then-not-is_empty in (omega (arith, o.across), o.in_width, omega (arith, o.down), o.in_height)

pub returns-then-not-is_empty : goal.returns-then-not-is_empty
returns-then-not-is_empty c =
    let a = c.args in
    let o = here (goal.at.returns-then-not-is_empty c).Then-not-is_empty in
    c.scaled_strips.ensures
    ∙ ap (λ F. painted a.size.w F a.px.now)
    (stretched a.size.w a.size.h a.clip a.src.now a.sides a.stretch (sym c.is_source.ensures ∙ c.if-is_source.true) (sym c.no_copy.ensures ∙ c.if-not-no_copy.true) o.sides c.mask_of.ensures)
    ∙ painted_on_lem a.size.w a.size.h _ a.px.now o.test

pub returns-else-not-is_empty : goal.returns-else-not-is_empty
unfolding scaled_rule
returns-else-not-is_empty c =
    let a = c.args in
    box_none a.size.w a.size.h a.clip (outer_pixels a.stretch.dest) a.px.now (area (goal.at.returns-else-not-is_empty c).After-area_on-area) _ (sym c.is_empty.ensures ∙ c.if-not-is_empty.false)

pub returns-else-is_source : goal.returns-else-is_source
returns-else-is_source c =
    let a = c.args in
    elim c.else-is_source.branch [
      | else-is_source-via-then-is_source+else-not-no_copy w ↦
          no_copy_lem a.size.w a.size.h a.clip a.src.now a.sides a.stretch a.px.now (sym c.is_source.ensures ∙ w.if-is_source.true) (sym w.no_copy.ensures ∙ w.if-not-no_copy.false)
      | else-is_source-via-else-is_source w ↦ no_source a.size.w a.size.h a.clip a.src.now a.sides a.stretch a.px.now (sym c.is_source.ensures ∙ w.if-is_source.false)
    ]
