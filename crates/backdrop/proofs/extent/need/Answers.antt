-- `need`: the definition's tests; on a canvas the sizes are small.
use Prim.Native.Nat.{◌*◌}
use mathlib.Core.Path.{◌≡◌, sym, ap, ◌∙◌}
use mathlib.Core.Bool.{false, ◌||◌}
use lib.Ieee.{lt}
use Rattle.geom.specs.Geom.{two, outer_pixels, is_empty}
use Rattle.canvas.specs.declared.Area.{Area}
use Rattle.canvas.specs.Canvas.{area_on, area_box}
use Rattle.canvas.proofs.Laws.Area.{area_bare, area_full}
use Rattle.backdrop.proofs.Laws.Window.{need_wide, need_high, need_small, need_none, need_some}
use Rattle.backdrop.proofs.extent.need.Goals as goal
use Rattle.backdrop.proofs.extent.need.Goals.{After-area_on-b, Else-too_small, then-size-gt4096-via-then-size-gt4096, then-size-gt4096-via-else-size-gt4096+then-size-gt4096-2, then-size-gt4096-via-else-size-gt4096+else-size-gt4096-2+then-too_small}

pub returns-then-size-gt4096 : goal.returns-then-size-gt4096
returns-then-size-gt4096 c =
    let a = c.args in
    elim c.then-size-gt4096.branch [
      | then-size-gt4096-via-then-size-gt4096 w ↦ need_wide a.size.w a.size.h a.clip a.rect a.style a.table.now w.if-size-gt4096.true
      | then-size-gt4096-via-else-size-gt4096+then-size-gt4096-2 w ↦ need_high a.size.w a.size.h a.clip a.rect a.style a.table.now w.if-size-gt4096-2.true
      | then-size-gt4096-via-else-size-gt4096+else-size-gt4096-2+then-too_small w ↦ need_small a.size.w a.size.h a.clip a.rect a.style a.table.now (sym w.too_small.ensures ∙ w.if-too_small.true)
    ]

big : (c : Else-too_small) → let r = c.args.rect in (lt r.w two || lt r.h two) ≡ false
big c = sym c.too_small.ensures ∙ c.if-too_small.false

box_here : (c : After-area_on-b) → let a = c.args in c.area_on-b.result ≡ area_on (a.size.w * a.size.h) a.size.w a.size.h a.clip (outer_pixels a.rect)
box_here c =
    let a = c.args in
    c.area_on-b.ensures.sides ∙ ap (area_on (a.size.w * a.size.h) a.size.w a.size.h a.clip) c.outer_pixels.ensures

pub returns-then-is_empty : goal.returns-then-is_empty
returns-then-is_empty c =
    let a = c.args in
    let e = box_here (goal.at.returns-then-is_empty c).After-area_on-b in
    let none = ap (λ (r : Area). is_empty (area_box r)) (sym e) ∙ sym c.is_empty.ensures ∙ c.if-is_empty.true in
    need_none a.size.w a.size.h a.clip a.rect a.style a.table.now (big (goal.at.returns-then-is_empty c).Else-too_small) (area_bare (a.size.w * a.size.h) a.size.w a.size.h a.clip (outer_pixels a.rect) none)

pub returns : goal.returns
returns c =
    let a = c.args in
    let e = box_here (goal.at.returns c).After-area_on-b in
    let some = ap (λ (r : Area). is_empty (area_box r)) (sym e) ∙ sym c.is_empty.ensures ∙ c.if-is_empty.false in
    c.picture_bytes.ensures
    ∙ need_some a.size.w a.size.h a.clip a.rect a.style a.table.now (big (goal.at.returns c).Else-too_small) (area_full (a.size.w * a.size.h) a.size.w a.size.h a.clip (outer_pixels a.rect) some)
