use mathlib.Core.Path.{◌≡◌}
use lib.ListN.{length}
use Rattle.boxblur.specs.declared.Axis.TheVariants.{Columns}
use Rattle.boxblur.specs.Private.{Block, new_byte, stripe}
use Rattle.boxblur.proofs.columns.blur_block.Given as goal

abbrev pub invariant-loop-y : goal.invariant-loop-y
invariant-loop-y l =
    (length l.s ≡ length l.fn.s)
    × (Block l.pass.src.now l.pass.blur l.x (length l.fn.s) l.y l.s × (l.dst ≡ stripe (new_byte Columns l.pass.src.now l.pass.blur) l.pass.blur.w l.x (length l.fn.s) l.y l.initial.dst))
