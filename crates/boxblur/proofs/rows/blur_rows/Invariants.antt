use mathlib.Core.Path.{◌≡◌}
use Rattle.boxblur.specs.declared.Axis.TheVariants.{Rows}
use Rattle.boxblur.specs.Private.{new_byte, stripe}
use Rattle.boxblur.proofs.rows.blur_rows.Given as goal

abbrev pub invariant-loop-y : goal.invariant-loop-y
invariant-loop-y l = l.dst ≡ stripe (new_byte Rows l.pass.src.now l.pass.blur) l.pass.blur.w 0 l.pass.blur.w l.y l.initial.dst
