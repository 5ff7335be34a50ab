-- `fill_rrect`: a flat rectangle changes nothing; otherwise its box is painted row by row.
use Rattle.std.proofs.Common.{rules, ◌≡◌, ◌+◌, ◌≤◌, length, sym, ap, ◌∙◌, arith, true}
use Rattle.geom.specs.Geom.{is_empty, outer_pixels}
use Rattle.canvas.specs.declared.Area.{Area}
use Rattle.canvas.specs.Canvas.{area_on, area_box}
use Rattle.canvas.proofs.Laws.Area.{area_none, area_bare, area_inside}
use Rattle.fill.specs.Fill.{fill_pix, fill_rule}
use Rattle.fill.proofs.Laws.{fill_flat, fill_box}
use Rattle.fill.proofs.fill_rrect.Goals as goal

pub returns-then-is_flat : goal.returns-then-is_flat
returns-then-is_flat c =
    let a = c.args in
    fill_flat a.size.w a.size.h a.clip a.rect a.r a.paint a.px.now (sym c.is_flat.ensures ∙ c.if-is_flat.true)

pub returns-then-is_empty : goal.returns-then-is_empty
unfolding fill_rule
returns-then-is_empty c =
    let a = c.args in
    let r = outer_pixels a.rect in
    let here : c.area_on-area.result ≡ area_on (length a.px.now) a.size.w a.size.h a.clip r =
    c.area_on-area.ensures.sides ∙ ap (area_on (length a.px.now) a.size.w a.size.h a.clip) c.outer_pixels.ensures in
    let bare : is_empty (area_box (area_on (length a.px.now) a.size.w a.size.h a.clip r)) ≡ true =
    ap (λ (s : Area). is_empty (area_box s)) (sym here) ∙ sym c.is_empty.ensures ∙ c.if-is_empty.true in
    rw (sym c.is_flat.ensures ∙ c.if-is_flat.false)
    (area_none a.size.w a.size.h a.clip r a.px.now _ (area_bare (length a.px.now) a.size.w a.size.h a.clip r bare))

pub paint_rows-requires : goal.paint_rows-requires
paint_rows-requires c = λ y row k.
    let b = c.area_on-area in
    let inside : b.result.x1 ≤ c.args.size.w = rw b.ensures.sides (area_inside _ _ _ _ _).0 in
    let e : b.result.x1 ≡ b.result.x0 + length row.now = omega (arith, k.columns, inside) in
    let near = rw e at c.middle-near.ensures in
    let far = rw e at c.middle-far.ensures in
    let full = rw e at c.full_cols-full.ensures in
    search rules

pub returns : goal.returns
returns c =
    let a = c.args in
    c.paint_rows.ensures (fill_pix a.rect c.corner_radius.result a.paint) (λ y row row' k p. search rules)
    ∙ rw (c.area_on-area.ensures.sides, c.outer_pixels.ensures, c.corner_radius.ensures) (fill_box a.size.w a.size.h a.clip a.rect a.r a.paint a.px.now (sym c.is_flat.ensures ∙ c.if-is_flat.false))
