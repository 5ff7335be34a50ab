-- `genie_under`: where the clip has no pixel of the canvas no row has one.
use mathlib.Core.Path.{◌≡◌, sym, ap, ◌∙◌}
use mathlib.Core.Bool.{true}
use lib.ListN.{length}
use Rattle.geom.specs.Geom.{is_empty}
use Rattle.canvas.specs.declared.Area.{Area}
use Rattle.canvas.specs.Canvas.{area_on, area_box}
use Rattle.canvas.proofs.Laws.Area.{area_bare}
use Rattle.genie.proofs.Strips.{none_under}
use Rattle.genie.proofs.genie_under.Goals as goal

pub returns-else-not-is_empty : goal.returns-else-not-is_empty
returns-else-not-is_empty c =
    let a = c.args in
    let e : is_empty (area_box (area_on (length a.px.now) a.size.w a.size.h a.clip a.clip)) ≡ true = ap (λ (v : Area). is_empty (area_box v)) (sym c.area_on-area.ensures.sides) ∙ sym c.is_empty.ensures ∙ c.if-not-is_empty.false in
    none_under a.size.w a.size.h a.clip a.src.now a.sides a.flight a.sides.h a.px.now (area_bare (length a.px.now) a.size.w a.size.h a.clip a.clip e)
