-- `blit_rounded_dim`: a source that is not as large as it says changes nothing; otherwise the box is copied row by row.
use mathlib.Core.Path.{◌≡◌, sym, ap, ◌∙◌}
use mathlib.Core.Bool.{true}
use mir.Val.{SFits}
use mir.Syntax.{w32}
use lib.ListN.{length}
use Rattle.std.proofs.Common.{rules, to_z-of_z}
use Rattle.geom.specs.Geom.{is_empty}
use Rattle.canvas.specs.declared.Area.{Area}
use Rattle.canvas.specs.Canvas.{area_on, area_box}
use Rattle.canvas.proofs.Laws.Area.{area_none, area_bare}
use Rattle.sources.specs.Source.{is_source}
use Rattle.sources.proofs.Laws.{source_is}
use Rattle.straight.specs.Straight.{copy_box, place, source_pix, straight_rule}
use Rattle.straight.proofs.Rows.{row_asks, asks_found, box_copied, no_source}
use Rattle.straight.proofs.blit_rounded_dim.Goals as goal
use Rattle.straight.proofs.blit_rounded_dim.Goals.{After-area_on-area, Then-is_source}

source : (c : Then-is_source) → let a = c.args in is_source a.sides (length a.src.now) ≡ true
source c = sym c.is_source.ensures ∙ c.if-is_source.true

-- the code's box
area : (c : After-area_on-area) → let a = c.args in
    c.area_on-area.result ≡ area_on (length a.px.now) a.size.w a.size.h a.clip (copy_box a.blit.x a.blit.y a.sides)
area c =
    let a = c.args in
    let x : SFits w32 a.blit.x = search rules in
    let y : SFits w32 a.blit.y = search rules in
    let b = rw (to_z-of_z x, to_z-of_z y) at c.copy_box.ensures in
    c.area_on-area.ensures.sides ∙ ap (area_on (length a.px.now) a.size.w a.size.h a.clip) b

pub returns-then-is_empty : goal.returns-then-is_empty
unfolding straight_rule
returns-then-is_empty c =
    let a = c.args in
    let r = copy_box a.blit.x a.blit.y a.sides in
    let bare : is_empty (area_box (area_on (length a.px.now) a.size.w a.size.h a.clip r)) ≡ true =
    ap (λ (s : Area). is_empty (area_box s)) (sym (area (goal.at.returns-then-is_empty c).After-area_on-area)) ∙ sym c.is_empty.ensures ∙ c.if-is_empty.true in
    area_none a.size.w a.size.h a.clip r a.px.now _ (area_bare (length a.px.now) a.size.w a.size.h a.clip r bare)

pub mask_of-mask-requires : goal.mask_of-mask-requires
mask_of-mask-requires c =
    let a = c.args in
    let q = source_is a.sides (length a.src.now) (source (goal.at.mask_of-mask-requires c).Then-is_source) in
    (q.narrow, q.low)

pub paint_rows-requires : goal.paint_rows-requires
paint_rows-requires c = λ y row h.
    let a = c.args in
    let t : is_source a.sides (length a.src.now) ≡ true = source (goal.at.paint_rows-requires c).Then-is_source in
    let q = row_asks a.size.w a.size.h a.clip a.sides a.blit a.px.now (area (goal.at.paint_rows-requires c).After-area_on-area) c.mask_of-mask.ensures h in
    let f : SFits w32 a.blit.x = search rules in
    let n = asks_found a.sides a.blit _ c.mask_of-mask.ensures (rw (to_z-of_z f) at c.place-sx.ensures) c.corner_span-span.ensures.0 in
    search (rules, t, q.0, q.1, n, c.corner_span-span.ensures.1)

pub returns-else-is_empty : goal.returns-else-is_empty
returns-else-is_empty c =
    let a = c.args in
    let m = c.mask_of-mask.result in
    c.paint_rows.ensures (λ u v p. source_pix a.src.now a.sides m (place m.blit.x u) (place m.blit.y v) u v p) (λ y row row' h post. search rules)
    ∙ box_copied a.size.w a.size.h a.clip a.src.now a.sides a.blit a.px.now (area (goal.at.returns-else-is_empty c).After-area_on-area) c.mask_of-mask.ensures (source (goal.at.returns-else-is_empty c).Then-is_source)

pub returns-else-is_source : goal.returns-else-is_source
returns-else-is_source c =
    let a = c.args in
    no_source a.size.w a.size.h a.clip a.src.now a.sides a.blit a.px.now (sym c.is_source.ensures ∙ c.if-is_source.false)
