-- `stroke_rrect`: where nothing is to be seen nothing changes; else the rows of the area paint the layer's box.
use Rattle.std.proofs.Common.{rules, ℕ, ◌≡◌, ◌+◌, sym, ap, subst, ◌∙◌, length, true}
use Rattle.geom.specs.declared.IRect.{IRect}
use Rattle.geom.specs.declared.Rect.{Rect}
use Rattle.geom.specs.Geom.{is_empty, outer_pixels}
use Rattle.canvas.specs.declared.Area.{Area}
use Rattle.canvas.specs.Canvas.{RowOf, area_on, painted_on, boxed, area_box, box_on}
use Rattle.canvas.proofs.Laws.Area.{area_none, area_bare, row_whole, area_paints}
use Rattle.canvas.proofs.Laws.Layer.{untouched}
use lib.Ieee.{Float}
use Rattle.edge.specs.Edge.{corner_radius}
use Rattle.edge.specs.declared.Middle.{Middle}
use Rattle.stroke.specs.Stroke as Stroke
use Rattle.stroke.specs.Private.{Between}
use Rattle.stroke.proofs.stroke_rrect.Goals as goal

pub returns-then-is_hidden : goal.returns-then-is_hidden
unfolding Stroke.stroke_rule
returns-then-is_hidden c =
    let a = c.args in
    untouched a.size.w a.size.h (box_on a.size.w a.size.h a.clip (outer_pixels a.rect)) _ a.px.now (λ x y p. rw (sym c.is_hidden.ensures ∙ c.if-is_hidden.true))

pub returns-then-is_empty : goal.returns-then-is_empty
unfolding Stroke.stroke_rule
returns-then-is_empty c =
    let a = c.args in
    let r = outer_pixels a.rect in
    let box : c.area_on-area.result ≡ area_on (length a.px.now) a.size.w a.size.h a.clip r =
    c.area_on-area.ensures.sides ∙ ap (area_on (length a.px.now) a.size.w a.size.h a.clip) c.outer_pixels.ensures in
    let bare : is_empty (area_box (area_on (length a.px.now) a.size.w a.size.h a.clip r)) ≡ true =
    ap (λ (s : Area). is_empty (area_box s)) (sym box) ∙ sym c.is_empty.ensures ∙ c.if-is_empty.true in
    rw (sym c.is_hidden.ensures ∙ c.if-is_hidden.false)
    (area_none a.size.w a.size.h a.clip r a.px.now _ (area_bare (length a.px.now) a.size.w a.size.h a.clip r bare))

-- a row reaches to the area's right side, so the ends are the row's own
here : (n w h : ℕ) (clip r : IRect) {a : Area} → a ≡ area_on n w h clip r → (y m : ℕ) (rect : Rect) (d : Float) (e : Middle) → RowOf w h a y m → Between a.x0 a.x1 rect d e → Between a.x0 (a.x0 + m) rect d e
here n w h clip r {a} s y m rect d e k E = subst (λ (x : ℕ). Between a.x0 x rect d e) (sym (row_whole n w h clip r s k)) E

pub paint_rows-requires : goal.paint_rows-requires
paint_rows-requires c = λ y row k.
    let a = c.area_on-area in
    let whole = row_whole _ _ _ _ _ a.ensures.sides k in
    let near = here _ _ _ _ _ a.ensures.sides y (length row.now) _ _ _ k c.between-near.ensures in
    let far = here _ _ _ _ _ a.ensures.sides y (length row.now) _ _ _ k c.between-far.ensures in search rules

pub returns : goal.returns
unfolding Stroke.stroke_rule
returns c =
    let a = c.args in
    let F = Stroke.stroke_pix (record { rect = a.rect; r = corner_radius a.rect a.r; width = a.width; color = a.color }) in
    let e = c.area_on-area.ensures.sides ∙ ap (area_on (length a.px.now) a.size.w a.size.h a.clip) c.outer_pixels.ensures in
    rw (sym c.is_hidden.ensures ∙ c.if-is_hidden.false)
    (c.paint_rows.ensures F (λ y row row' k p. search rules)
    ∙ ap (λ (s : Area). painted_on a.size.w a.size.h (boxed (area_box s) F) a.px.now) e
    ∙ area_paints a.size.w a.size.h a.clip (outer_pixels a.rect) F a.px.now)
