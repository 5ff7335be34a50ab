-- `composite_secure_frame`: an unknown tag and a frame that ends past the canvas's width change nothing; otherwise the area's rows paint the frame.
use Rattle.std.proofs.Common.{rules, ℕ, ◌≡◌, ◌-◌, ◌||◌, ltb, leb, length, ap, ◌∙◌, arith}
use Rattle.canvas.specs.declared.Area.{Area}
use Rattle.canvas.specs.Rows.{map_row}
use Rattle.canvas.specs.Canvas.{painted_on, boxed, area_box}
use Rattle.frame.specs.Frame.{is_security_border}
use Rattle.frame.specs.Private.{framed}
use Rattle.frame.proofs.Parts.{no_frame, no_tag, too_wide, fits, framed_rule, row_here}
use Rattle.frame.proofs.GlassSurface.composite_secure_frame.Goals as goal

pub returns-in_default : goal.returns-in_default
returns-in_default c =
    let a = c.args in
    no_frame a.size.w a.size.h a.self a.tag a.tint a.xray a.px.now (no_tag a.size.w a.self a.tag c.in_default.ensures)

pub returns-else-area-size : goal.returns-else-area-size
returns-else-area-size c =
    let a = c.args in
    let right = ap (λ (s : Area). s.x1) c.area-area.ensures in
    no_frame a.size.w a.size.h a.self a.tag a.tint a.xray a.px.now (too_wide a.size.w a.self a.tag c.in-Ok.tag c.in-Ok.ensures (omega arith))

pub returns-then-area-size : goal.returns-then-area-size
returns-then-area-size c =
    let a = c.args in
    let s = a.self in
    let area = c.area-area.result in
    let b = c.border_px-b.result in
    let k = c.look_of-look.result in
    let right = ap (λ (t : Area). t.x1) c.area-area.ensures in
    let F = λ (u v p : ℕ). framed k (is_security_border s (v - s.y) (u - s.x)) p in
    c.paint_rows.ensures F (λ y row row' r p.
    let here : row'.now ≡ map_row (λ i p. framed k ((ltb (y - area.y0) b || leb (s.height - b) (y - area.y0) || ltb (y - area.y0) 28) || (ltb i b || leb (length row.now - b) i)) p) row.now = search rules in
    here ∙ row_here s k area b y row.now c.area-area.ensures c.border_px-b.ensures (omega (arith, r.columns)))
    ∙ ap (λ (t : Area). painted_on a.size.w a.size.h (boxed (area_box t) F) a.px.now) c.area-area.ensures
    ∙ rw (c.look_of-look.ensures, c.in-Ok.ensures) (framed_rule a.size.w a.size.h s a.tag a.tint a.xray (fits a.size.w s a.tag c.in-Ok.tag c.in-Ok.ensures (omega arith)) a.px.now)
