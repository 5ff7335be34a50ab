-- `shadow_strips`: the loop's invariant is `Striped` at the pixel's rule.
use mathlib.Core.Path.{◌≡◌}
use lib.ListN.{length}
use Rattle.shadow.specs.Shadow.{shadow_pix}
use Rattle.shadow.proofs.Rows.{Striped}
use Rattle.shadow.proofs.shadow_strips.Given as goal

abbrev pub invariant-loop-x0 : goal.invariant-loop-x0
invariant-loop-x0 l =
    Striped l.size.w l.size.h l.area.x0 l.area.y0 l.area.x1 l.area.y1 (shadow_pix l.caster.table l.caster.rect l.caster.shadow) l.initial.px l.px l.x0-counter
    × (length l.cols ≡ 2048)
