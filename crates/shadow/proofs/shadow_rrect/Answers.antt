-- `shadow_rrect`: where there is no shadow nothing changes; else the strips of the area paint the layer's box.
use Rattle.std.proofs.Common.{◌≡◌, length, sym, ap, ◌∙◌, true}
use lib.Ieee.{neg}
use Rattle.geom.specs.Geom.{inset, outer_pixels, is_empty}
use Rattle.canvas.specs.declared.Area.{Area}
use Rattle.canvas.specs.Canvas.{area_on, painted_on, boxed, area_box}
use Rattle.canvas.proofs.Laws.Area.{area_none, area_bare, area_paints}
use Rattle.shadow.specs.Shadow.{alphas, held, shadow_pix, shadow_rule, shadow_box}
use Rattle.shadow.proofs.Laws.{shadow_none}
use Rattle.shadow.proofs.shadow_rrect.Goals as goal
use Rattle.shadow.proofs.shadow_rrect.Goals.{After-area_on-area}

-- the box that the code works out
area_here : (c : After-area_on-area) → let s = c.args in
    c.area_on-area.result ≡ area_on (length s.px.now) s.size.w s.size.h s.clip (outer_pixels (inset s.rect (neg s.shadow.blur)))
area_here c =
    let s = c.args in
    c.area_on-area.ensures.sides
    ∙ ap (area_on (length s.px.now) s.size.w s.size.h s.clip) (c.outer_pixels-reach.ensures ∙ ap outer_pixels c.inset.ensures)

pub returns-then-is_unseen : goal.returns-then-is_unseen
returns-then-is_unseen c =
    let s = c.args in
    shadow_none s.size.w s.size.h s.clip s.rect s.shadow s.px.now (sym c.is_unseen.ensures ∙ c.if-is_unseen.true)

pub returns-then-is_empty : goal.returns-then-is_empty
unfolding shadow_rule shadow_box
returns-then-is_empty c =
    let s = c.args in
    let r = outer_pixels (inset s.rect (neg s.shadow.blur)) in
    let here = area_here (goal.at.returns-then-is_empty c).After-area_on-area in
    let bare : is_empty (area_box (area_on (length s.px.now) s.size.w s.size.h s.clip r)) ≡ true = ap (λ (a : Area). is_empty (area_box a)) (sym here) ∙ sym c.is_empty.ensures ∙ c.if-is_empty.true in
    area_none s.size.w s.size.h s.clip r s.px.now _ (area_bare (length s.px.now) s.size.w s.size.h s.clip r bare)

pub returns : goal.returns
unfolding shadow_rule shadow_box
returns c =
    let s = c.args in
    let F = shadow_pix (alphas s.shadow.color.a) s.rect (held s.rect s.shadow) in
    rw (sym c.is_unseen.ensures ∙ c.if-is_unseen.false)
    ((rw (c.corner_radius-r.ensures, c.alphas.ensures) at c.shadow_strips.ensures)
    ∙ ap (λ (a : Area). painted_on s.size.w s.size.h (boxed (area_box a) F) s.px.now) (area_here (goal.at.returns c).After-area_on-area)
    ∙ area_paints s.size.w s.size.h s.clip (outer_pixels (inset s.rect (neg s.shadow.blur))) F s.px.now)
