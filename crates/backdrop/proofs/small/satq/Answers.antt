-- `satq`: the definition's operations.
use mathlib.Core.Path.{refl, ap, ◌∙◌}
use mir.Syntax.{w32}
use mir.Val.{SFits}
use mir.Facts.{to_z-of_z}
use Rattle.std.proofs.Common.{rules}
use Rattle.geom.specs.Geom.{max_z, min_z}
use Rattle.geom.proofs.Sides.{cast_side}
use Rattle.backdrop.specs.Picture.{satq}
use Rattle.backdrop.proofs.Tint.{held_z}
use Rattle.backdrop.proofs.small.satq.Goals as goal

pub returns : goal.returns
unfolding satq max_z min_z
returns c =
    let f : SFits w32 c.clamp.result = search rules in
    rw (to_z-of_z f) (c.clamp.ensures.value ∙ ap held_z (cast_side c.to_i32.ensures refl))
