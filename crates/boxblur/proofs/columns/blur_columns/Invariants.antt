use Prim.Native.Nat.{min}
use mathlib.Core.Path.{◌≡◌}
use lib.ListN.{length}
use Rattle.boxblur.specs.declared.Axis.TheVariants.{Columns}
use Rattle.boxblur.specs.Private.{new_byte}
use Rattle.boxblur.proofs.Pass.{Filled}
use Rattle.boxblur.proofs.columns.blur_columns.Given as goal

abbrev pub invariant-loop-x : goal.invariant-loop-x
invariant-loop-x l =
    (length l.line ≡ 2048) × ((length l.dst ≡ length l.initial.dst) × Filled (new_byte Columns l.pass.src.now l.pass.blur) l.pass.blur.w l.pass.blur.h (min l.x l.pass.blur.w) l.dst)
